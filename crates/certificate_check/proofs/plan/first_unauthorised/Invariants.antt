use Rattle.std.proofs.Common.{◌≡◌, ◌-◌, length}
use Rattle.policy_book.specs.Course.{problem_in}
use Rattle.certificate_check.specs.Plan.{first_failing, may_perform}
use Rattle.certificate_check.proofs.plan.first_unauthorised.Given as goal

abbrev pub invariant-steps : goal.invariant-steps
invariant-steps l = first_failing (may_perform (problem_in l.course) l.done l.plan) l.s (length l.plan - l.s) ≡ first_failing
    (may_perform (problem_in l.course) l.done l.plan) 0 (length l.plan)
