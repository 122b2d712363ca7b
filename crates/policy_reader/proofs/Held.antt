-- Whether some number below n passes, found one by one.
use Rattle.std.proofs.Common.{◌≡◌, ℕ, zero, suc, ◌+◌, ◌<◌, Bool, true, refl, subst, inl, inr, arith, ◌&&◌, List, [], ◌∷◌, length, slice_set}
use Rattle.policy_reader.proofs.Words.{cases_lt, or_left, or_right, any_below, any_from}

pub any_at : (n : ℕ) (test : ℕ → Bool) (u : ℕ) → u < n → test u ≡ true → any_below n test ≡ true
any_at zero test u lt here = absurd (omega (arith, lt))
any_at (suc n) test u lt here = elim (cases_lt u n) [
  | inl below ↦ or_left _ (test n) (any_at n test u below here)
  | inr above ↦ let same : u ≡ n = omega (arith, lt, above) in or_right (any_below n test) _ (subst (λ k. test k ≡ true) same here)
]

-- ---- a group with one more step has some step

pub any_set : (k s : ℕ) (group : List Bool) → s < length group → any_from k (slice_set group s true) (λ _. true) ≡ true
any_set k s [] within = absurd (omega (arith, within))
any_set k zero (b ∷ bs) within = refl
any_set k (suc s) (b ∷ bs) within = or_right (b && true) _ (any_set (k + 1) s bs (omega (arith, within)))
