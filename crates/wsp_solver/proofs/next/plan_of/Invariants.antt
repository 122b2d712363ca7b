use Rattle.std.proofs.Common.{◌≡◌, ◌<◌, ℕ, length, Some, slice_index}
use Rattle.wf_names.specs.declared.limits.TheConstants.{STEP_LIMIT}
use Rattle.constraint_forms.specs.Assign.{user_at}
use Rattle.wsp_solver.proofs.next.plan_of.Given as goal

abbrev pub invariant-steps : goal.invariant-steps
invariant-steps l = (length l.users ≡ STEP_LIMIT) × ((t : ℕ) → t < l.s → user_at l.a t ≡ Some (slice_index l.users t))
