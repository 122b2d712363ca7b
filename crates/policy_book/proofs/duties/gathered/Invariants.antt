use Rattle.std.proofs.Common.{◌≡◌}
use Rattle.policy_book.specs.Duties.{row_has, steps_below}
use Rattle.policy_book.proofs.duties.gathered.Given as goal

abbrev pub invariant-steps : goal.invariant-steps
invariant-steps l = l.set ≡ steps_below l.s (λ s. row_has l.rows s l.u)
