use Rattle.policy_reader.proofs.Prints.{◌≡◌, ℕ, ◌<◌, map, take, Some, slice_get, view, Rule, rule_data, HasFlags}
use Rattle.policy_reader.proofs.printed_flows.rules_value.Given as goal

abbrev pub invariant-rules : goal.invariant-rules
invariant-rules l =
    (map view l.values.items ≡ map (rule_data l.relations l.steps.names) (take l.k l.rules))
    × ((m : ℕ) → m < l.k → (rule : Rule) → slice_get l.rules m ≡ Some rule → HasFlags rule)
