use Rattle.policy_reader.proofs.Words.{◌≡◌, ◌≤◌, ◌+◌, length, members_view, table_view, RELATION_LIMIT, entries, first_declared, entry_of}
use Rattle.policy_reader.proofs.relations.entry_of.Given as goal

abbrev pub invariant-entries : goal.invariant-entries
invariant-entries l =
    (entry_of l.number l.text (entries (members_view l.key-iterator)) ≡ entry_of first_declared l.text (entries (table_view l.fn.all)))
    × (l.number + length l.key-iterator ≤ first_declared + RELATION_LIMIT)
