-- Tests of every number below another, and tests that agree.
use Rattle.std.proofs.Common.{◌≡◌, ◌≢◌, refl, ap, ◌∙◌, ℕ, zero, suc, ◌+◌, ◌<◌, Bool, true, false, ◌⊎◌, inl, inr, eqb, arith}
use Rattle.std.proofs.lemmas.Bool.Decides.{eqb_tells}
use Rattle.basics.proofs.Booleans.{and_both, and_from, differ, not_true, not_yes}
use Rattle.policy_book.specs.Laws.Twins.{agree, all_below}

pub each_passes : (n : ℕ) (test : ℕ → Bool) → all_below n test ≡ true → (k : ℕ) → k < n → test k ≡ true
each_passes zero test all k below = absurd (omega (arith, below))
each_passes (suc n) test all k below =
    let both = and_both (all_below n test) (test n) all in
    at both.1 (eqb_tells k n) (λ apart. each_passes n test both.0 k (omega (arith, below, apart)))
  where
    at : test n ≡ true → ((eqb k n ≡ true) × (k ≡ n)) ⊎ ((eqb k n ≡ false) × (k ≢ n)) → (k ≢ n → test k ≡ true) → test k ≡ true
    at here (inl same) before = ap test same.1 ∙ here
    at here (inr apart) before = before apart.1

pub all_pass : (n : ℕ) (test : ℕ → Bool) → ((k : ℕ) → k < n → test k ≡ true) → all_below n test ≡ true
all_pass zero test each = refl
all_pass (suc n) test each = and_from (all_below n test) (test n) (all_pass n test (λ k below. each k (omega (arith, below)))) (each n (omega arith))

pub one_fails : (n k : ℕ) (test : ℕ → Bool) → k < n → test k ≡ false → all_below n test ≡ false
one_fails n k test below fails = not_true (all_below n test) (λ all. differ (test k) (each_passes n test all k below) fails)

pub one_more_passes : (n : ℕ) (test : ℕ → Bool) → all_below n test ≡ true → test n ≡ true → all_below (n + 1) test ≡ true
one_more_passes n test all here = let more : n + 1 ≡ suc n = omega arith in ap (λ m. all_below m test) more ∙ and_from (all_below n test) (test n) all here

pub agree_same : (a b : Bool) → agree a b ≡ true → a ≡ b
agree_same a b h = grind (arith, not_yes)

pub same_agree : (a b : Bool) → a ≡ b → agree a b ≡ true
same_agree a b e = grind arith
