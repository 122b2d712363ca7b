-- The steps of a set one after the other, and those of two sets.
use Rattle.std.proofs.Common.{◌≡◌, ℕ, ◌+◌, ◌-◌, ◌/◌, ◌^◌, ◌<◌, ◌≤◌, false, ◌||◌, nat_eq, slice_index_or, sym, ap, ◌∙◌, inl, inr}
use Rattle.std.proofs.Common.{arith, bit_or}
use Rattle.std.specs.Int.{bit_at, w32, trailing_zeros}
use Rattle.std.proofs.lemmas.Nat.{shr_le}
use Rattle.std.proofs.lemmas.Nat.Bits.{bit_at-zero, bit_at_above, bit_at-trailing_zeros, bit_at_or, bit_at-lt}
use Rattle.std.proofs.lemmas.Bool.{cases_lt}
use Rattle.wf_names.specs.declared.limits.TheConstants.{STEP_LIMIT}
use Rattle.wf_names.proofs.NextUsers.{shifted}
use Rattle.wf_names.proofs.UserBits.{some_bit}
use Rattle.constraint_forms.specs.Flags.{flags_of}
use Rattle.constraint_forms.specs.Assign.{IsNextStep}
use Rattle.constraint_forms.proofs.Bits.{flags_of-at, has_no_flag}

-- a flag is false where its bit is not set
unset : (n w s : ℕ) → bit_at w s ≡ 0 → slice_index_or (flags_of n w) s false ≡ false
unset n w s h = grind (arith, cases_lt, flags_of-at, has_no_flag)

-- a bit from a place on, by the rest of the word
bit_from : (w k s : ℕ) → k ≤ s → bit_at w s ≡ bit_at (w / 2 ^ k) (s - k)
bit_from w k s h = grind (arith, shifted)

-- where nothing is left of a word, no flag is set from there on
pub none_from : (n w k : ℕ) → w / 2 ^ k ≡ 0 → (s : ℕ) → k ≤ s → slice_index_or (flags_of n w) s false ≡ false
none_from n w k nothing s h = unset n w s (bit_from w k s h ∙ ap (λ x. bit_at x (s - k)) nothing ∙ bit_at-zero (s - k))

-- the least flag from a place on
pub next_from : (w k : ℕ) → w < 2 ^ STEP_LIMIT → 0 < w / 2 ^ k → IsNextStep (flags_of STEP_LIMIT w) k (k + trailing_zeros w32 (w / 2 ^ k))
next_from w k fits some =
    let rest = w / 2 ^ k in
    let tz = trailing_zeros w32 rest in
    let least = bit_at-trailing_zeros w32 rest some (omega (arith, fits, shr_le w k)) in
    let set : bit_at w (k + tz) ≡ 1 = sym (shifted w k tz) ∙ least.1 in
    let within : k + tz < STEP_LIMIT = elim (cases_lt (k + tz) STEP_LIMIT) [
      | inl lt ↦ lt
      | inr ge ↦ absurd (omega (arith, set, bit_at_above w STEP_LIMIT (k + tz) fits ge))
    ] in
    record {
      within = within;
      from_on = omega arith;
      member = flags_of-at STEP_LIMIT w (k + tz) false within ∙ ap (λ b. nat_eq b 1) set;
      least = λ t from lt. unset STEP_LIMIT w t (bit_from w k t from ∙ least.2 (t - k) (omega (arith, from, lt)));
    }

-- the flags of either word
pub flags_of-or : (n v w s : ℕ) →
    slice_index_or (flags_of n (bit_or v w)) s false ≡ (slice_index_or (flags_of n v) s false || slice_index_or (flags_of n w) s false)
flags_of-or n v w s = grind (arith, cases_lt, flags_of-at, bit_at_or, some_bit, bit_at-lt, has_no_flag)
