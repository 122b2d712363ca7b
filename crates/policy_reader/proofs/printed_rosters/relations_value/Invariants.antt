use Rattle.policy_reader.proofs.Prints.{◌≡◌, ℕ, ◌+◌, ◌<◌, true, table_view, known_names, first_declared, name_at, table_below, relation_entry, is_name}
use Rattle.policy_reader.proofs.printed_rosters.relations_value.Given as goal

abbrev pub invariant-relations : goal.invariant-relations
invariant-relations l =
    (table_view l.table ≡ table_below l.n (λ n. relation_entry l.users.names l.relations (first_declared + n)))
    × ((m : ℕ) → m < l.n → is_name (name_at (known_names l.relations) (first_declared + m)) ≡ true)
