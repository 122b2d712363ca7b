use Rattle.policy_reader.proofs.Prints.{◌≡◌, map, length, view, pair_data, rows}
use Rattle.policy_reader.proofs.printed_flows.order_value.Given as goal

abbrev pub invariant-steps : goal.invariant-steps
invariant-steps l = map view l.values.items ≡ map (pair_data l.flow.steps) (rows l.s (length l.flow.steps) l.flow.order)
