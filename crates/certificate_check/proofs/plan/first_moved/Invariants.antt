use Rattle.std.proofs.Common.{◌≡◌, ◌-◌, length}
use Rattle.constraint_forms.specs.Assign.{planned, user_at}
use Rattle.certificate_check.specs.Plan.{first_failing, is_kept}
use Rattle.certificate_check.proofs.plan.first_moved.Given as goal

abbrev pub invariant-steps : goal.invariant-steps
invariant-steps l = first_failing (λ s. is_kept (user_at l.a s) (planned l.plan s)) l.s (length l.plan - l.s) ≡ first_failing
    (λ s. is_kept (user_at l.a s) (planned l.plan s)) 0 (length l.plan)
