use Rattle.policy_reader.proofs.Words.{◌≡◌, map, members_view, table_view, each, entries, known_key}
use Rattle.policy_reader.proofs.parts.no_others.Given as goal

abbrev pub invariant-entries : goal.invariant-entries
invariant-entries l =
    each (known_key l.part l.index (map (λ k. k.now) l.known)) tt (entries (members_view l.key-iterator)) ≡ each
    (known_key l.part l.index (map (λ k. k.now) l.known)) tt (entries (table_view l.fn.table))
