use Rattle.std.proofs.Common.{◌≡◌, if◌then◌else◌}
use Rattle.trial_command.specs.Jobs.{begins_with_edit, turns, with_edit}
use Rattle.trial_command.proofs.jobs.Maker.add_round.Given as goal

abbrev pub invariant-cases : goal.invariant-cases
invariant-cases l = l.self ≡ turns l.round l.case (if begins_with_edit l.round then with_edit l.fn.self else l.fn.self)
