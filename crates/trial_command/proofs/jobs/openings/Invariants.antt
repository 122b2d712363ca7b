use Rattle.std.proofs.Common.{◌≡◌}
use Rattle.trial_command.specs.Jobs.{openings}
use Rattle.trial_command.proofs.jobs.openings.Given as goal

abbrev pub invariant-cases : goal.invariant-cases
invariant-cases l = l.jobs ≡ openings l._case
