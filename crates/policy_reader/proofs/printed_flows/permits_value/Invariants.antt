use Rattle.policy_reader.proofs.Prints.{◌≡◌, table_view, table_below, permit_entry}
use Rattle.policy_reader.proofs.printed_flows.permits_value.Given as goal

abbrev pub invariant-steps : goal.invariant-steps
invariant-steps l = table_view l.table ≡ table_below l.s (permit_entry l.roles.names l.flow)
