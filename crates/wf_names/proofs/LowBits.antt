-- Words whose lowest bits are set, and sets that begin with full words.
use Rattle.std.proofs.Common.{◌≡◌, ℕ, ◌+◌, ◌-◌, ◌*◌, ◌/◌, ◌%◌, ◌^◌, ◌<◌, ◌≤◌, nat_eq, nat_lt, false, List, length, get_or, set, slice_index_or, slice_set, sym}
use Rattle.std.proofs.Common.{ap, ◌∙◌, inl, inr, arith, get_or-set_same, get_or-set_other, replicate}
use Rattle.std.proofs.lemmas.Nat.Bits.{bit_at_ones, bit_at_ones_above, bit_at-zero}
use Rattle.std.proofs.lemmas.Bool.{cases_lt, cases_eq, lt-ltb, le-ltb}
use Rattle.std.proofs.lemmas.List.{get_or_past, get_or-replicate, length-replicate}
use Rattle.wf_names.specs.UserSets.{has_bit, has_user}

pub lowest_bits : (n k : ℕ) → has_bit (2 ^ n - 1) k ≡ nat_lt k n
lowest_bits n k = grind (arith, cases_lt, bit_at_ones, lt-ltb, bit_at_ones_above, le-ltb)

-- the first n words are full and the others empty
pub record AreFull (n : ℕ) (words : List ℕ) : Type 0 where
  pub full : (i : ℕ) → i < n → slice_index_or words i 0 ≡ 2 ^ 64 - 1
  pub none : (i : ℕ) → n ≤ i → slice_index_or words i 0 ≡ 0

-- words without a bit
pub zero_in : (n i z : ℕ) → slice_index_or (replicate n z) i z ≡ z
zero_in n i z = grind (arith, cases_lt, get_or-replicate, get_or_past, length-replicate)

pub none_in : (n v : ℕ) → has_user (replicate n 0) v ≡ false
none_in n v = ap (λ w. has_bit w (v % 64)) (zero_in n (v / 64) 0) ∙ ap (λ b. nat_eq b 1) (bit_at-zero (v % 64))

pub none_full : (n : ℕ) → AreFull 0 (replicate n 0)
none_full n = record { full = λ i lt. absurd (omega (arith, lt)); none = λ i ge. zero_in n i 0 }

pub full_next : (n : ℕ) (words : List ℕ) → n < length words → AreFull n words → AreFull (n + 1) (slice_set words n (2 ^ 64 - 1))
full_next n words within f = grind (arith, cases_eq, get_or-set_same, get_or-set_other)

-- full words, and the lowest bits of the next one
pub up_to_partly : (users : ℕ) (words : List ℕ) (word : ℕ) → users / 64 < length words → AreFull (users / 64) words
    → ((k : ℕ) → has_bit word k ≡ nat_lt k (users % 64)) → (v : ℕ) → has_user (slice_set words (users / 64) word) v ≡ nat_lt v users
up_to_partly users words word within f low v = elim (cases_eq (v / 64) (users / 64)) [
  | inl e ↦
      ap (λ i. has_bit (get_or (set words (users / 64) word) i 0) (v % 64)) e
      ∙ ap (λ w. has_bit w (v % 64)) (get_or-set_same words (users / 64) word 0 within)
      ∙ low (v % 64)
      ∙ elim (cases_lt (v % 64) (users % 64)) [
        | inl lt ↦ lt-ltb (v % 64) (users % 64) lt ∙ sym (lt-ltb v users (omega (arith, lt, e)))
        | inr ge ↦ le-ltb (v % 64) (users % 64) ge ∙ sym (le-ltb v users (omega (arith, ge, e)))
      ]
  | inr ne ↦
      ap (λ w. has_bit w (v % 64)) (get_or-set_other words (users / 64) (v / 64) word 0 ne)
      ∙ elim (cases_lt (v / 64) (users / 64)) [
        | inl lt ↦ ap (λ w. has_bit w (v % 64)) (f.full (v / 64) lt) ∙ lowest_bits 64 (v % 64) ∙ lt-ltb (v % 64) 64 (omega arith) ∙
            sym (lt-ltb v users (omega (arith, lt)))
        | inr ge ↦ ap (λ w. has_bit w (v % 64)) (f.none (v / 64) ge) ∙ ap (λ b. nat_eq b 1) (bit_at-zero (v % 64)) ∙
            sym (le-ltb v users (omega (arith, ge, ne)))
      ]
]

-- full words alone
pub up_to_whole : (users : ℕ) (words : List ℕ) → users ≤ 64 * length words → length words ≤ users / 64 → AreFull (users / 64) words
    → (v : ℕ) → has_user words v ≡ nat_lt v users
up_to_whole users words within whole f v = elim (cases_lt (v / 64) (users / 64)) [
  | inl lt ↦ ap (λ w. has_bit w (v % 64)) (f.full (v / 64) lt) ∙ lowest_bits 64 (v % 64) ∙ lt-ltb (v % 64) 64 (omega arith) ∙
      sym (lt-ltb v users (omega (arith, lt)))
  | inr ge ↦ ap (λ w. has_bit w (v % 64)) (f.none (v / 64) ge) ∙ ap (λ b. nat_eq b 1) (bit_at-zero (v % 64)) ∙
      sym (le-ltb v users (omega (arith, ge, within, whole)))
]
