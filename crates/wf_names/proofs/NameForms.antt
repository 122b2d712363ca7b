-- What a name's form says of its bytes.
use Prim.Native.Nat.{zero, suc}
use Rattle.std.proofs.Common.{◌≡◌, ℕ, ◌++◌, drop, replicate, sym, subst, ◌<◌, ◌≤◌, true, List, [], ◌∷◌, length, IsTrue, arith}
use Rattle.std.specs.Prelude.{IsUtf8}
use Rattle.std.specs.Str.{IsAscii}
use Rattle.std.specs.List.{list_all}
use Rattle.std.proofs.Math.Seq.{take-append_seam}
use Rattle.std.proofs.Math.Bool.{and-eq-true_iff}
use Rattle.std.proofs.lemmas.Str.{IsUtf8-from_ascii}
use Rattle.std.proofs.lemmas.Bool.Decides.{nat_tests}
use Rattle.wf_names.specs.declared.limits.TheConstants.{NAME_LIMIT}
use Rattle.wf_names.proofs.PaddedLists.{put_first}
use Rattle.wf_names.specs.Names.{IsStoredName, is_name, is_name_byte}

byte_below : (b : ℕ) → is_name_byte b ≡ true → b < 128
byte_below b h = grind (arith, nat_tests)

bytes_below : (bs : List ℕ) → list_all is_name_byte bs ≡ true → IsAscii bs
bytes_below [] h i = omega arith
bytes_below (b ∷ bs) h zero = byte_below b ((and-eq-true_iff (is_name_byte b) (list_all is_name_byte bs)).0 h).0
bytes_below (b ∷ bs) h (suc i) = bytes_below bs ((and-eq-true_iff (is_name_byte b) (list_all is_name_byte bs)).0 h).1 i

-- a name is text
pub name_utf8 : (bs : List ℕ) → IsTrue (is_name bs) → IsUtf8 bs
unfolding is_name
name_utf8 bs h = IsUtf8-from_ascii bs (bytes_below bs (grind arith))

-- a name is at most 40 bytes long
pub name_length : (bs : List ℕ) → IsTrue (is_name bs) → length bs ≤ NAME_LIMIT
unfolding is_name
name_length bs h = grind (arith, nat_tests)

-- the cells of a name: its bytes, and zeros behind them
pub cells_stored : (bs cells : List ℕ) → cells ≡ replicate NAME_LIMIT 0 → IsTrue (is_name bs) → IsStoredName (bs ++ drop (length bs) cells) (length bs)
cells_stored bs cells e h = record {
  cells = put_first NAME_LIMIT 0 bs cells e (name_length bs h);
  form = subst (λ (t : List ℕ). IsTrue (is_name t)) (sym (take-append_seam bs (drop (length bs) cells))) h;
}
