use Rattle.std.proofs.Common.{◌≡◌, ◌<◌, ℕ, slice_get, true}
use Rattle.policy_book.specs.Course.{problem_in}
use Rattle.certificate_check.specs.Plan.{keeps_rule}
use Rattle.certificate_check.proofs.moved.keeps_rules.Given as goal

-- the rules so far are kept
abbrev pub invariant-rules : goal.invariant-rules
invariant-rules l = (j : ℕ) → j < l.k → keeps_rule (problem_in l.course) l.plan l.step (slice_get (problem_in l.course).rules j) ≡ true
