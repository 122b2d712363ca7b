use Rattle.std.proofs.Common.{◌≡◌, ◌+◌, ◌≤◌, drop}
use Rattle.constraint_forms.specs.Rules.{count_members}
use Rattle.constraint_forms.proofs.step_set.StepSet.count.Given as goal

abbrev pub invariant-steps : goal.invariant-steps
invariant-steps l = (l.count + count_members (drop l.s l.self) ≡ count_members l.self) × (l.count ≤ l.s)
