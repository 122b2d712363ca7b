use Rattle.std.proofs.Common.{◌≡◌, ◌-◌, ◌++◌}
use Rattle.std.specs.List.{flat_map}
use Rattle.cnf_export.specs.Laws.Encodings.{numbers, step_groups}
use Rattle.cnf_export.proofs.grouping.add_steps.Given as goal

abbrev pub invariant-steps : goal.invariant-steps
invariant-steps l = l.made.items ++ flat_map step_groups (numbers l.s (l.steps - l.s)) ≡ l.fn.made.items ++ flat_map step_groups (numbers 0 l.steps)
