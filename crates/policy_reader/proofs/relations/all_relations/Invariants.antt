use Rattle.policy_reader.proofs.Words.{length, [], table_view, shapes, each, entries, next_relation, names_of, AreReadRelations}
use Rattle.policy_reader.proofs.Fresh.{IsLeft}
use Rattle.policy_reader.proofs.relations.all_relations.Given as goal

abbrev pub invariant-entries : goal.invariant-entries
invariant-entries l =
    IsLeft (next_relation l.users.names (table_view l.fn.all)) names_of l.fn.all.entries
    (each (next_relation l.users.names (table_view l.fn.all)) [] (entries (table_view l.fn.all))) (shapes l.relations.items) l.key-iterator
    × AreReadRelations (length l.users.names) (entries (table_view l.fn.all)) (shapes l.relations.items)
