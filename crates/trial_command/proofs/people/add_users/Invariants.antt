use Rattle.std.proofs.Common.{◌≡◌, map}
use Rattle.std.specs.List.{range_with_len}
use Rattle.trial_command.specs.Named.{user_name}
use Rattle.trial_command.proofs.people.add_users.Given as goal

abbrev pub invariant-users : goal.invariant-users
invariant-users l = l.roster ≡ record l.fn.roster { users = map user_name (range_with_len 0 l.u) }
