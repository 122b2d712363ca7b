-- The whole lines of a text, and its first line.
use Rattle.transcript_commands.proofs.Common.{◌≡◌, ℕ, suc, ◌+◌, ◌-◌, ◌==◌, ◌<◌, ◌≤◌, Bool, true, false, List, [], ◌∷◌, length, take, Option, None, Some, refl}
use Rattle.transcript_commands.proofs.Common.{sym, ap, subst, ◌∙◌, arith, common_steps, drop_all, take_all, IsFirstByte, is_byte, behind_line, first_line}
use Rattle.transcript_commands.proofs.Common.{has_end, FindsEnd, finds_end, open_line, whole_lines}
use Rattle.std.proofs.Common.{◌≢◌, zero, drop, slice_index}

-- ---- up to the last LF

not_ten : (b : ℕ) (x : Bool) → (b == 10) ≡ x → b ≢ 10 → x ≡ false
not_ten b x is other = grind (arith, common_steps)

-- without LF nothing has ended
none_ended : (bytes : List ℕ) → ((k : ℕ) → k < length bytes → slice_index bytes k ≢ 10) → has_end bytes ≡ false
none_ended [] none = refl
none_ended (b ∷ bs) none =
    rw (not_ten b (b == 10) refl (none 0 (omega arith))) (none_ended bs (λ k within. none (suc k) (omega (arith, within))))

end_here : (b : ℕ) (bs : List ℕ) (x : Bool) → (b == 10) ≡ x → (x ≡ false → has_end bs ≡ true) → has_end (b ∷ bs) ≡ true
end_here b bs x is later = grind arith

-- with one some line has
some_ended : (bytes : List ℕ) (k : ℕ) → k < length bytes → slice_index bytes k ≡ 10 → has_end bytes ≡ true
some_ended [] k within here = absurd (omega (arith, within))
some_ended (b ∷ bs) k within here = grind (arith, end_here, (some_ended bs))

-- all up to the last LF are the whole lines
pub whole_front : (bytes : List ℕ) (n : ℕ) → n ≤ length bytes → (0 < n → slice_index bytes (n - 1) ≡ 10) →
    ((k : ℕ) → n ≤ k → k < length bytes → slice_index bytes k ≢ 10) → take n bytes ≡ whole_lines bytes
whole_front [] n within ended last = grind arith
whole_front (b ∷ bs) zero within ended last =
    let none : has_end (b ∷ bs) ≡ false = none_ended (b ∷ bs) (λ k below. last k (omega arith) below) in
    rw none refl
whole_front (b ∷ bs) (suc n) within ended last =
    let last_one : slice_index (b ∷ bs) n ≡ 10 = let same : suc n - 1 ≡ n = omega arith in
    subst (λ k. slice_index (b ∷ bs) k ≡ 10) same (ended (omega arith)) in
    let here : has_end (b ∷ bs) ≡ true = some_ended (b ∷ bs) n (omega (arith, within)) last_one in
    rw here (ap (λ xs. b ∷ xs) (whole_front bs n (omega (arith, within)) (front_ended b bs n last_one)
    (λ k above below. last (suc k) (omega (arith, above)) (omega (arith, below)))))
  where
    front_ended : (b : ℕ) (bs : List ℕ) (n : ℕ) → slice_index (b ∷ bs) n ≡ 10 → 0 < n → slice_index bs (n - 1) ≡ 10
    front_ended b bs zero here some = absurd (omega (arith, some))
    front_ended b bs (suc n) here some = let same : n ≡ suc n - 1 = omega arith in subst (λ k. slice_index bs k ≡ 10) same here

-- ---- the first line

-- the first so many bytes are the first line
pub record IsFirstLine (bytes : List ℕ) (n : ℕ) : Type 0 where
  pub some : 0 < n
  pub within : n ≤ length bytes
  pub line : take n bytes ≡ first_line bytes
  pub behind : drop n bytes ≡ behind_line bytes

pub first_ended : (bytes : List ℕ) (found : Option ℕ) (n : ℕ) → IsFirstByte (is_byte 10) bytes found → found ≡ Some n → IsFirstLine bytes (n + 1)
first_ended bytes found n is some =
    let at = subst (FindsEnd bytes) some (finds_end bytes found is) in
    let next : suc n ≡ n + 1 = omega arith in
    record {
      some = omega arith;
      within = let within = at.within in omega (arith, within);
      line = ap (λ m. take m bytes) (sym next) ∙ sym at.line;
      behind = ap (λ m. drop m bytes) (sym next) ∙ sym at.behind;
    }

pub first_open : (bytes : List ℕ) (found : Option ℕ) → IsFirstByte (is_byte 10) bytes found → found ≡ None → 0 < length bytes → IsFirstLine bytes (length bytes)
first_open bytes found is none some =
    let whole = open_line bytes (subst (FindsEnd bytes) none (finds_end bytes found is)) in
    record {
      some = some;
      within = omega arith;
      line = take_all (length bytes) bytes (omega arith) ∙ sym whole.line;
      behind = drop_all (length bytes) bytes (omega arith) ∙ sym whole.behind;
    }
