use Rattle.std.proofs.Common.{◌≡◌, map}
use Rattle.std.specs.List.{range_with_len}
use Rattle.trial_command.specs.Named.{step_name}
use Rattle.trial_command.proofs.steps.step_table.Given as goal

abbrev pub invariant-steps : goal.invariant-steps
invariant-steps l = l.steps ≡ record { names = map step_name (range_with_len 0 l.s); limit = 12 }
