use Rattle.policy_reader.proofs.Words.{◌≡◌, length, members_view, each, HasPermitted, entries, next_permit}
use Rattle.policy_reader.proofs.workflows.read_permits.Given as goal

abbrev pub invariant-entries : goal.invariant-entries
invariant-entries l =
    (each (next_permit l.roles.flow l.roles.names.now.names) l.made (entries (members_view l.key-iterator)) ≡ each
    (next_permit l.roles.flow l.roles.names.now.names) l.fn.made (entries (members_view l.initial.key-iterator)))
    × HasPermitted (length l.roles.names.now.names) l.fn.made l.made
