use Rattle.std.proofs.Common.{◌≡◌, ℕ, ◌<◌, Some, length}
use Rattle.wf_names.specs.declared.limits.TheConstants.{STEP_LIMIT}
use Rattle.constraint_forms.specs.Assign.{planned, user_at}
use Rattle.constraint_forms.proofs.count.assigned_by.Given as goal

abbrev pub invariant-steps : goal.invariant-steps
invariant-steps l = ((t : ℕ) → t < l.s → user_at l.a t ≡ Some (planned l.plan t)) × (length l.a ≡ STEP_LIMIT)
