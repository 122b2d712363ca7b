-- What the bits of words are after a step of the code.
use Rattle.std.proofs.Common.{◌≡◌, ℕ, ◌*◌, ◌/◌, ◌%◌, ◌^◌, max, ◌<◌, ◌≤◌, inl, inr, false, not, ◌&&◌, ◌||◌, nat_eq, nat_lt, sym, ap, subst, ◌∙◌}
use Rattle.std.proofs.Common.{arith, bit_and, bit_or}
use Rattle.std.specs.Int.{bit_at, bit_not, w64}
use Rattle.std.proofs.lemmas.Nat.Bits.{bit_at-lt, bit_at_or, bit_at-zero, shr_and_one, bit_at_set_same, bit_at_set_other, bit_at_clear_same, bit_at_clear_other}
use Rattle.std.proofs.lemmas.Bool.{cases_eq}
use Rattle.workflow_schema.specs.declared.table.TheConstants.{WORD_BITS}
use Rattle.workflow_schema.specs.Tables.{is_set}
use Rattle.basics.proofs.Booleans.{and_or, and_same, and-false, twice_and, eq_same, eq_other, lt_yes, lt_no, lt_back}
use mir.Val.{bits}

or_test : (x y : ℕ) → x < 2 → y < 2 → nat_eq (max x y) 1 ≡ (nat_eq x 1 || nat_eq y 1)
or_test x y h i = grind arith

pub is_set-or : (a b i : ℕ) → is_set (bit_or a b) i ≡ (is_set a i || is_set b i)
unfolding is_set
is_set-or a b i = grind (arith, bit_at_or, or_test, bit_at-lt, and_or)

pub is_set-zero : (i : ℕ) → is_set 0 i ≡ false
unfolding is_set
is_set-zero i = ap (λ n. nat_lt i WORD_BITS && nat_eq n 1) (bit_at-zero i) ∙ and-false _

-- the test of the code tells the bit
pub is_set-tested : (w i : ℕ) → i < WORD_BITS → nat_eq (bit_and (w / 2 ^ i) 1) 1 ≡ is_set w i
unfolding is_set
is_set-tested w i h = grind (arith, shr_and_one, lt_yes)

pub is_set-past : (w i : ℕ) → WORD_BITS ≤ i → is_set w i ≡ false
unfolding is_set
is_set-past w i h = ap (λ l. l && nat_eq (bit_at w i) 1) (lt_no i WORD_BITS h)

pub is_set-cut : (w i : ℕ) → (nat_lt i WORD_BITS && is_set w i) ≡ is_set w i
unfolding is_set
is_set-cut w i = twice_and (nat_lt i WORD_BITS) (nat_eq (bit_at w i) 1)

pub is_set-with : (w k i : ℕ) → k < WORD_BITS → is_set (bit_or w (1 * 2 ^ k % 2 ^ bits w64)) i ≡ (nat_eq i k || is_set w i)
unfolding is_set
is_set-with w k i h =
    elim (cases_eq i k) [
      | inl e ↦
          subst (λ j. (nat_lt j WORD_BITS && nat_eq (bit_at (bit_or w (1 * 2 ^ k % 2 ^ bits w64)) j) 1) ≡ (nat_eq j k ||
          (nat_lt j WORD_BITS && nat_eq (bit_at w j) 1))) (sym e)
          ((λ j. lt_yes k WORD_BITS h j && nat_eq (bit_at_set_same w64 w k h j) 1)
          ∙ sym (ap (λ t. t || (nat_lt k WORD_BITS && nat_eq (bit_at w k) 1)) (eq_same k)))
      | inr ne ↦
          ap (λ n. nat_lt i WORD_BITS && nat_eq n 1) (bit_at_set_other w64 w k h i ne)
          ∙ sym (ap (λ t. t || (nat_lt i WORD_BITS && nat_eq (bit_at w i) 1)) (eq_other i k ne))
    ]

pub is_set-without : (w k i : ℕ) → k < WORD_BITS → is_set (bit_and w (bit_not w64 (1 * 2 ^ k % 2 ^ bits w64))) i ≡ (not (nat_eq i k) && is_set w i)
unfolding is_set
is_set-without w k i h =
    elim (cases_eq i k) [
      | inl e ↦
          subst (λ j. (nat_lt j WORD_BITS && nat_eq (bit_at (bit_and w (bit_not w64 (1 * 2 ^ k % 2 ^ bits w64))) j) 1) ≡ (not (nat_eq j k) &&
          (nat_lt j WORD_BITS && nat_eq (bit_at w j) 1))) (sym e)
          ((λ j. lt_yes k WORD_BITS h j && nat_eq (bit_at_clear_same w64 w k h j) 1)
          ∙ sym (ap (λ t. not t && (nat_lt k WORD_BITS && nat_eq (bit_at w k) 1)) (eq_same k)))
      | inr ne ↦
          and_same (nat_lt i WORD_BITS) _ _ (λ t. ap (λ n. nat_eq n 1) (bit_at_clear_other w64 w k h i (lt_back i WORD_BITS t) ne))
          ∙ sym (ap (λ t. not t && (nat_lt i WORD_BITS && nat_eq (bit_at w i) 1)) (eq_other i k ne))
    ]
