use Rattle.policy_reader.proofs.Prints.{◌≡◌, ℕ, ◌<◌, table_view, flow_at, table_below, flow_entry, IsNamedWorkflow}
use Rattle.policy_reader.proofs.printed_flows.flows_value.Given as goal

abbrev pub invariant-flows : goal.invariant-flows
invariant-flows l =
    (table_view l.table ≡ table_below l.f (flow_entry l.policy))
    × ((m : ℕ) → m < l.f → IsNamedWorkflow (flow_at l.policy m))
