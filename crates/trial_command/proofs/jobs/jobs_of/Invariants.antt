use Rattle.std.proofs.Common.{◌≡◌}
use Rattle.trial_command.specs.Jobs.{openings, rounds}
use Rattle.trial_command.proofs.jobs.jobs_of.Given as goal

abbrev pub invariant-rounds : goal.invariant-rounds
invariant-rounds l = l.maker ≡ rounds l.cases l.round (record { state = l.fn.draws; jobs = openings l.cases })
