-- The numbers that pass a test.
use Rattle.std.proofs.Common.{◌≡◌, ℕ, ◌+◌, ◌-◌, ◌<◌, Bool, ◌∷◌, if◌then◌else◌, arith}
use Rattle.policy_book.specs.Laws.Refuting.{passing}

-- the first of them is the next, or not
pub passing_at : (test : ℕ → Bool) (k n : ℕ) → k < n →
    passing test k (n - k) ≡ (if test k then k ∷ passing test (k + 1) (n - (k + 1)) else passing test (k + 1) (n - (k + 1)))
passing_at test k n below = grind arith
