use Rattle.policy_reader.proofs.Words.{sym, subst, length, table_view, kind_view, shapes, entries, IsReadKind}
use Rattle.policy_reader.proofs.Relating.{kept_push, names_push}
use Rattle.user_relations.specs.Laws.Relations.{RelationShape}
use Rattle.policy_reader.proofs.RuleLists.{on_ok}
use Rattle.policy_reader.proofs.relations.next_relation.Goals as goal

pub returns-in-Ok-clause-next : goal.returns-in-Ok-clause-next
returns-in-Ok-clause-next c =
    let users = length c.args.users.now.names in
    let all = entries (table_view c.args.all.now) in
    let old = shapes c.args.relations.now.items in
    let made : RelationShape = record { name = c.args.key.now; kind = kind_view c.in-Ok.kind } in
    let kept = subst (λ b. IsReadKind users all b (kind_view c.in-Ok.kind)) (sym c.requires.here) c.in-Ok.ensures.kept in
    on_ok c.push_relation.result _ _ c.push_relation.ensures.added
    (λ e. rw (e, c.in_ok-name.ensures.value) (record {
      names = names_push old made;
      kept = kept_push users all old made c.requires.kept c.in_ok-name.ensures.free c.requires.new kept;
    }))
