use Rattle.std.proofs.Common.{◌≡◌, ◌≤◌, false, length}
use Rattle.tell_run.specs.Policy.{CanAllBeDone}
use Rattle.tell_run.proofs.planless.push_planless.Given as goal

abbrev pub invariant-flows : goal.invariant-flows
invariant-flows l = (l.f ≤ length l.p.flows) × (l.some ≡ false → CanAllBeDone l.p l.f)
