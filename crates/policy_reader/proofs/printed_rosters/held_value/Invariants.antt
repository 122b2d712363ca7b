use Rattle.policy_reader.proofs.Prints.{◌≡◌, map, string, view, has_role, name_at, chosen}
use Rattle.policy_reader.proofs.printed_rosters.held_value.Given as goal

abbrev pub invariant-roles : goal.invariant-roles
invariant-roles l = map view l.values.items ≡ map (λ n. string (name_at l.roster.roles n)) (chosen l.r (has_role l.roster l.u))
