use Rattle.std.proofs.Common.{◌≡◌, map}
use Rattle.std.specs.List.{range_with_len}
use Rattle.wf_names.specs.declared.limits.TheConstants.{ROLE_LIMIT}
use Rattle.trial_command.specs.Named.{role_name}
use Rattle.trial_command.proofs.people.role_table.Given as goal

abbrev pub invariant-roles : goal.invariant-roles
invariant-roles l = l.roles ≡ record { names = map role_name (range_with_len 0 l.r); limit = ROLE_LIMIT }
