use Rattle.policy_reader.proofs.Prints.{◌≡◌, map, take, view, pair_data}
use Rattle.policy_reader.proofs.printed_parts.pairs_value.Given as goal

abbrev pub invariant-pairs : goal.invariant-pairs
invariant-pairs l = map view l.values.items ≡ map (pair_data l.names.names) (take l.pair-index l.pairs)
