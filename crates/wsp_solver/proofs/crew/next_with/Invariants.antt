use Rattle.std.proofs.Common.{◌≡◌, ◌≤◌, ◌<◌, ℕ, false}
use Rattle.wsp_solver.specs.Crews.{has_steps}
use Rattle.wsp_solver.proofs.crew.next_with.Given as goal

abbrev pub invariant-users : goal.invariant-users
invariant-users l = (w : ℕ) → l.from ≤ w → w < l.v → has_steps l.duties l.steps w ≡ false
