-- How the flags of a word change with its bits.
use Rattle.std.proofs.Common.{◌≡◌, ℕ, zero, suc, ◌*◌, ◌/◌, ◌%◌, ◌^◌, ◌<◌, ◌≤◌, Bool, true, false, nat_eq, nat_lt, List, ◌∷◌, length, get_or, set, replicate}
use Rattle.std.proofs.Common.{slice_index_or, slice_set, refl, sym, ap, subst, ◌∙◌, inl, inr, arith, bit_and, bit_or, length-set, get_or-set_same}
use Rattle.std.proofs.Common.{get_or-set_other}
use Rattle.std.specs.Int.{bit_at, w32}
use Rattle.std.proofs.lemmas.Nat.Bits.{bit_at-suc, bit_at_lowest, shr_and_one, bit_at_set_same, bit_at_set_other}
use Rattle.std.proofs.lemmas.List.{same_lists, get_or_past}
use Rattle.std.proofs.lemmas.Bool.{cases_eq}
use Rattle.constraint_forms.specs.Flags.{flags_of, word_of, word_of-flags_of}
use Rattle.std.proofs.Math.Pow.{pow-lt}
use Rattle.std.proofs.lemmas.Nat.{or_lt}
use mir.Val.{bits}

pub length-flags_of : (n w : ℕ) → length (flags_of n w) ≡ n
unfolding flags_of
length-flags_of zero w = refl
length-flags_of (suc n) w = ap suc (length-flags_of n (w / 2))

pub flags_of-at : (n w i : ℕ) (d : Bool) → i < n → get_or (flags_of n w) i d ≡ nat_eq (bit_at w i) 1
unfolding flags_of
flags_of-at zero w i d h = absurd (omega arith)
flags_of-at (suc n) w i d h = grind (arith, bit_at_lowest, bit_at-suc, (flags_of-at n))

get_or-replicate_same : (n i : ℕ) → get_or (replicate n false) i false ≡ false
get_or-replicate_same zero i = grind arith
get_or-replicate_same (suc n) i = grind (arith, (get_or-replicate_same n))

pub flags_of-zero : (n : ℕ) → flags_of n 0 ≡ replicate n false
unfolding flags_of
flags_of-zero zero = refl
flags_of-zero (suc n) = ap (λ fs. false ∷ fs) (flags_of-zero n)

pub none_of_zero : (n i : ℕ) → slice_index_or (flags_of n 0) i false ≡ false
none_of_zero n i = rw (flags_of-zero n) (get_or-replicate_same n i)

-- the test of bit i tells the flag
pub has_flag : (n w i : ℕ) → i < n → nat_eq (bit_and (w / 2 ^ i) 1) 1 ≡ slice_index_or (flags_of n w) i false
has_flag n w i h = ap (λ b. nat_eq b 1) (shr_and_one w i) ∙ sym (flags_of-at n w i false h)

pub not_below : (i n : ℕ) → n ≤ i → nat_lt i n ≡ false
not_below i n h = grind arith

-- past the end no flag is set
pub has_no_flag : (n w i : ℕ) → n ≤ i → slice_index_or (flags_of n w) i false ≡ false
has_no_flag n w i h = get_or_past (flags_of n w) i false (subst (λ m. m ≤ i) (sym (length-flags_of n w)) h)

-- to set bit i is to set the flag
pub flags_of-with : (n w i : ℕ) → i < n → i < 32 → flags_of n (bit_or w (1 * 2 ^ i % 2 ^ bits w32)) ≡ slice_set (flags_of n w) i true
flags_of-with n w i h small =
    let many = length-flags_of n w in
    same_lists _ _
    (length-flags_of n _ ∙ sym (length-set (flags_of n w) i true ∙ many))
    (λ k d within.
    let below : k < n = subst (λ m. k < m) (length-flags_of n _) within in
    flags_of-at n _ k d below
    ∙ elim (cases_eq k i) [
      | inl e ↦
          subst (λ j. nat_eq (bit_at (bit_or w (1 * 2 ^ i % 2 ^ bits w32)) j) 1 ≡ get_or (set (flags_of n w) i true) j d) (sym e)
          (ap (λ b. nat_eq b 1) (bit_at_set_same w32 w i small)
          ∙ sym (get_or-set_same (flags_of n w) i true d (subst (λ m. i < m) (sym many) h)))
      | inr ne ↦
          ap (λ b. nat_eq b 1) (bit_at_set_other w32 w i small k ne)
          ∙ sym (flags_of-at n w k d below)
          ∙ sym (get_or-set_other (flags_of n w) i k true d ne)
    ])

-- no bit from the limit on is set
pub set_fits : (n w i : ℕ) → i < n → i < 32 → w < 2 ^ n → bit_or w (1 * 2 ^ i % 2 ^ bits w32) < 2 ^ n
set_fits n w i h small fits = grind (arith, pow-lt, or_lt)

-- words with equal flags are told apart by the flags
pub same_words : (n x y : ℕ) (a b : List Bool) (r : Bool) → flags_of n x ≡ a → flags_of n y ≡ b → x < 2 ^ n → y < 2 ^ n → r ≡ nat_eq x y →
    r ≡ nat_eq (word_of a) (word_of b)
same_words n x y a b r e f hx hy is =
    is ∙ (λ j. nat_eq ((sym (word_of-flags_of n x hx) ∙ ap word_of e) j) ((sym (word_of-flags_of n y hy) ∙ ap word_of f) j))
