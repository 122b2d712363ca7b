use Rattle.std.proofs.Common.{◌≡◌, ◌<◌, ℕ, is_some, true}
use Rattle.constraint_forms.specs.Assign.{user_at}
use Rattle.wsp_solver.proofs.next.first_free.Given as goal

abbrev pub invariant-steps : goal.invariant-steps
invariant-steps l = (t : ℕ) → t < l.s → is_some (user_at l.a t) ≡ true
