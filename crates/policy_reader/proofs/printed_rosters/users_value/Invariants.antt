use Rattle.policy_reader.proofs.Prints.{◌≡◌, table_view, table_below, user_entry}
use Rattle.policy_reader.proofs.printed_rosters.users_value.Given as goal

abbrev pub invariant-users : goal.invariant-users
invariant-users l = table_view l.table ≡ table_below l.u (user_entry l.roster)
