use Rattle.policy_reader.proofs.Prints.{◌≡◌, map, take, string, view}
use Rattle.policy_reader.proofs.printed_parts.names_value.Given as goal

abbrev pub invariant-names : goal.invariant-names
invariant-names l = map view l.values.items ≡ map string (take l.n l.names.names)
