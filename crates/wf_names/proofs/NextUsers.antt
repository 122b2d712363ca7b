-- The least set bit of a word and the least user of a set, from a place on.
use Rattle.std.proofs.Common.{◌≡◌, ℕ, ◌+◌, ◌-◌, ◌*◌, ◌/◌, ◌%◌, ◌^◌, ◌<◌, ◌≤◌, false, nat_eq, List, length, slice_index, sym, ap, ◌∙◌, inl, inr, arith}
use Rattle.std.specs.Int.{bit_at, w64, trailing_zeros}
use Rattle.std.proofs.lemmas.Nat.{shr-shr, shr_le}
use Rattle.std.proofs.lemmas.Nat.Bits.{bit_at-zero, bit_at_above, bit_at-trailing_zeros}
use Rattle.std.proofs.lemmas.Bool.{cases_lt}
use Rattle.std.proofs.lemmas.List.{get_or_past}
use Rattle.wf_names.specs.UserSets.{has_bit, has_user, IsBitFrom, IsNextIn}

pub shifted : (w k j : ℕ) → bit_at (w / 2 ^ k) j ≡ bit_at w (k + j)
shifted w k j = ap (λ x. x % 2) (shr-shr w k j)

pub no_bits : (w k : ℕ) → w / 2 ^ k ≡ 0 → (i : ℕ) → k ≤ i → has_bit w i ≡ false
no_bits w k nothing i from =
    let j = i - k in
    let is : k + j ≡ i = omega (arith, from) in
    ap (λ x. nat_eq x 1) (ap (bit_at w) (sym is) ∙ sym (shifted w k j) ∙ ap (λ x. bit_at x j) nothing ∙ bit_at-zero j)

pub lowest_bit : (w k : ℕ) → w < 2 ^ 64 → 0 < w / 2 ^ k → IsBitFrom w k (k + trailing_zeros w64 (w / 2 ^ k))
lowest_bit w k fits some =
    let rest = w / 2 ^ k in
    let tz = trailing_zeros w64 rest in
    let least = bit_at-trailing_zeros w64 rest some (omega (arith, fits, shr_le w k)) in
    let set : bit_at w (k + tz) ≡ 1 = sym (shifted w k tz) ∙ least.1 in
    record {
      within = elim (cases_lt (k + tz) 64) [
        | inl lt ↦ lt
        | inr ge ↦ absurd (omega (arith, set, bit_at_above w 64 (k + tz) fits ge))
      ];
      from_on = omega arith;
      set = ap (λ x. nat_eq x 1) set;
      least = λ i from lt.
          let j = i - k in
          let is : k + j ≡ i = omega (arith, from) in
          ap (λ x. nat_eq x 1) (ap (bit_at w) (sym is) ∙ sym (shifted w k j) ∙ least.2 j (omega (arith, from, lt)));
    }

-- nobody from a number on is in the words before a place
abbrev pub NobodyBefore : List ℕ → ℕ → ℕ → Type 0
NobodyBefore words from i = (v : ℕ) → from ≤ v → v / 64 < i → has_user words v ≡ false

-- ... and nobody is in the word there
pub nobody_on : (words : List ℕ) (from i low : ℕ) → ((k : ℕ) → low ≤ k → has_bit (slice_index words i) k ≡ false)
    → ((v : ℕ) → from ≤ v → v / 64 ≡ i → low ≤ v % 64) → NobodyBefore words from i → NobodyBefore words from (i + 1)
nobody_on words from i low none lows before = grind (arith, cases_lt)

-- ... and the first in the word there
pub next_at : (words : List ℕ) (from i low bit : ℕ) → IsBitFrom (slice_index words i) low bit → ((v : ℕ) → from ≤ v → v / 64 ≡ i → low ≤ v % 64)
    → NobodyBefore words from i → from ≤ i * 64 + bit → IsNextIn words from (i * 64 + bit)
next_at words from i low bit first lows before from_on = grind (arith, cases_lt)

pub nobody_past : (words : List ℕ) (v : ℕ) → length words ≤ v / 64 → has_user words v ≡ false
nobody_past words v past = ap (λ w. has_bit w (v % 64)) (get_or_past words (v / 64) 0 past) ∙ ap (λ b. nat_eq b 1) (bit_at-zero (v % 64))
