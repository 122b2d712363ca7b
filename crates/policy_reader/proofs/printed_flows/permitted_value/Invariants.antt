use Rattle.std.specs.FinSet as set
use Rattle.policy_reader.proofs.Prints.{◌≡◌, map, string, view, name_at, chosen}
use Rattle.policy_reader.proofs.printed_flows.permitted_value.Given as goal

abbrev pub invariant-roles : goal.invariant-roles
invariant-roles l = map view l.values.items ≡ map (λ n. string (name_at l.roles.names n)) (chosen l.r (λ r. set.contains l.flow.permits (r, l.s)))
