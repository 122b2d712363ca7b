use Rattle.policy_reader.proofs.Prints.{◌≡◌, ◌++◌, map, view, pair_data, row}
use Rattle.policy_reader.proofs.printed_flows.push_row.Given as goal

abbrev pub invariant-steps : goal.invariant-steps
invariant-steps l = map view l.values.items ≡ map view l.fn.values.items ++ map (pair_data l.flow.steps) (row l.s l.t l.flow.order)
