-- No byte of a text of JSON is LF.
use Rattle.entry_laws.proofs.Common.{◌≡◌, ℕ, zero, suc, ◌+◌, ◌<◌, Bool, true, false, ◌&&◌, nat_lt, List, [], ◌∷◌, ◌++◌, if◌then◌else◌, refl, arith, All}
use Rattle.entry_laws.proofs.Common.{and_both, lt_back, Data, string, array, unsigned, no_members, comma_if, compact_text, items_text, members_text}
use Rattle.std.proofs.Common.{◌≢◌, pos}
use Rattle.std.proofs.Common.{negsuc}
use Rattle.std.specs.Fmt.{decimal, digits, digits_onto}
use Rattle.json.specs.Print.{escape, escape_byte, quoted}
use Rattle.serde_json.specs.Data.{null, boolean, number, object, negative, float, Items, no_items, item, Members}
use Rattle.serde_json.specs.Data.{member}
use Rattle.wire_json.specs.Replies.{entry_data, entry_text}
use Rattle.entry_laws.specs.Laws.{TextsAreLines}

-- none of these is LF
abbrev NoEnds : List ℕ → Type 0
NoEnds [] = Unit {0}
NoEnds (x ∷ xs) = (x ≢ 10) × NoEnds xs

none_all : (xs : List ℕ) → NoEnds xs → All (λ b. b ≢ 10) xs
none_all [] none k d lt = absurd (omega (arith, lt))
none_all (x ∷ xs) none h2 d lt = grind (arith, (none_all xs))

both : (xs ys : List ℕ) → NoEnds xs → NoEnds ys → NoEnds (xs ++ ys)
both [] ys first later = later
both (x ∷ xs) ys first later = (first.0, both xs ys first.1 later)

above : (n : ℕ) → 10 < n → n ≢ 10
above n more is = omega (arith, more, is)

-- ---- digits

glyph_at : (low upper : Bool) (d : ℕ) → (if low then 48 + d else (if upper then 55 + d else 87 + d)) ≢ 10
glyph_at low upper d = grind arith

either_none : (b : Bool) (xs ys : List ℕ) → NoEnds xs → NoEnds ys → NoEnds (if b then xs else ys)
either_none b xs ys first other = grind arith

digits_none : (k base : ℕ) (upper : Bool) (n : ℕ) (acc : List ℕ) → NoEnds acc → NoEnds (digits_onto k base upper n acc)
digits_none zero base upper n acc none = none
digits_none (suc k) base upper n acc none = grind (arith, glyph_at, either_none, (digits_none k))

decimal_none : (n : ℕ) → NoEnds (decimal n)
unfolding digits
decimal_none n = digits_none 64 10 false n [] tt

byte_none : (x : ℕ) → NoEnds (escape_byte x)
unfolding escape_byte
byte_none x = grind arith

escape_none : (s : List ℕ) → NoEnds (escape s)
escape_none [] = tt
escape_none (x ∷ xs) = both (escape_byte x) (escape xs) (byte_none x) (escape_none xs)

quoted_none : (s : List ℕ) → NoEnds (quoted s)
quoted_none s = (above 34 (omega arith), both (escape s) (34 ∷ []) (escape_none s) (above 34 (omega arith), tt))

-- ---- values

-- none of these is LF, as a test of bytes that are known
abbrev has_no_end : List ℕ → Bool
has_no_end [] = true
has_no_end (x ∷ xs) = nat_lt 10 x && has_no_end xs

known_none : (xs : List ℕ) → has_no_end xs ≡ true → NoEnds xs
known_none [] is = tt
known_none (x ∷ xs) is = let all = and_both (nat_lt 10 x) (has_no_end xs) is in (above x (lt_back 10 x all.0), known_none xs all.1)

comma_none : (later : Bool) → NoEnds (comma_if later)
comma_none later = grind arith

mutual
  text_none : (d : Data) → NoEnds (compact_text d)
  text_none null = known_none (compact_text null) refl
  text_none (boolean true) = known_none (compact_text (boolean true)) refl
  text_none (boolean false) = known_none (compact_text (boolean false)) refl
  text_none (number (unsigned n)) = decimal_none n
  text_none (number (negative (pos n))) = decimal_none n
  text_none (number (negative (negsuc n))) = (above 45 (omega arith), decimal_none (suc n))
  text_none (number (float x)) = tt
  text_none (string s) = quoted_none s
  text_none (array ds) = (above 91 (omega arith), items_none false ds)
  text_none (object ms) = (above 123 (omega arith), members_none false ms)

  items_none : (later : Bool) (ds : Items) → NoEnds (items_text later ds)
  items_none later no_items = known_none (93 ∷ []) refl
  items_none later (item d ds) =
      both (comma_if later) _ (comma_none later) (both (compact_text d) (items_text true ds) (text_none d) (items_none true ds))

  members_none : (later : Bool) (ms : Members) → NoEnds (members_text later ms)
  members_none later no_members = known_none (125 ∷ []) refl
  members_none later (member k d ms) =
      both (comma_if later) _ (comma_none later)
      (both (quoted k) _ (quoted_none k) (above 58 (omega arith), both (compact_text d) (members_text true ms) (text_none d) (members_none true ms)))

pub texts_are_lines : TextsAreLines
unfolding entry_text
texts_are_lines p e = record {
  front = compact_text (entry_data p e);
  ends = refl;
  inside = none_all (compact_text (entry_data p e)) (text_none (entry_data p e));
}
