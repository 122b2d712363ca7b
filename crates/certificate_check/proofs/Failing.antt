-- The first of some numbers that fails a test.
use Rattle.std.proofs.Common.{◌≡◌, ℕ, ◌+◌, ◌-◌, ◌<◌, Bool, Some, if◌then◌else◌, arith}
use Rattle.certificate_check.specs.Plan.{first_failing}

-- the number looked at next fails, or the first that fails is behind it
pub first_failing_at : (test : ℕ → Bool) (k n : ℕ) → k < n →
    first_failing test k (n - k) ≡ (if test k then first_failing test (k + 1) (n - (k + 1)) else Some k)
first_failing_at test k n below = grind arith
