use Rattle.std.proofs.Common.{◌≡◌, length}
use Rattle.wf_names.specs.declared.limits.TheConstants.{STEP_LIMIT}
use Rattle.wsp_solver.proofs.near.with_assigned.Given as goal

abbrev pub invariant-steps : goal.invariant-steps
invariant-steps l = length l.users ≡ STEP_LIMIT
