use Rattle.policy_reader.proofs.Prints.{◌≡◌, map, string, view, is_member, name_at, chosen}
use Rattle.policy_reader.proofs.printed_flows.group_value.Given as goal

abbrev pub invariant-steps : goal.invariant-steps
invariant-steps l = map view l.values.items ≡ map (λ n. string (name_at l.steps.names n)) (chosen l.s (is_member l.group))
