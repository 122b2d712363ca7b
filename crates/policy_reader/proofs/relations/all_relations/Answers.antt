use Rattle.policy_reader.proofs.Words.{length, refl, [], arith, table_view, shapes, entries, next_relation, names_of}
use Rattle.policy_reader.proofs.Counts.{count_entries}
use Rattle.policy_reader.proofs.Fresh.{left_start, left_none, left_next, left_ascend, left_count}
use Rattle.policy_reader.proofs.Relating.{kept_none, marked_next, sound_of, related_of, names_count}
use Rattle.policy_reader.proofs.relations.all_relations.Goals as goal

pub entries-init : goal.entries-init
entries-init c =
    let made = c.into_iter-key-iterator.ensures.into_iter_gives in
    rw (c.requires.none, made.0)
    (left_start (next_relation c.args.users.now.names (table_view c.args.all.now)) names_of [] c.args.all.now.entries refl made.5, kept_none _ _)

pub next_relation-requires-clause-new : goal.next_relation-requires-clause-new
next_relation-requires-clause-new c =
    rw c.as_str.ensures.value
    (left_none (next_relation c.args.users.now.names (table_view c.args.all.now)) names_of c.args.all.now.entries _ (shapes c.entries.relations.items)
    c.entries.key-iterator (c.in-Some.key.now, c.in-Some.value.now) c.next.new.self c.in-Some.ensures.steps c.entries.invariant.0)

pub next_relation-requires-clause-here : goal.next_relation-requires-clause-here
next_relation-requires-clause-here c =
    marked_next (next_relation c.args.users.now.names (table_view c.args.all.now)) _ c.args.all.now.entries c.entries.key-iterator
    (c.in-Some.key.now, c.in-Some.value.now) c.next.new.self
    (shapes c.entries.relations.items) c.in-Some.ensures.steps c.entries.invariant.0

pub entries-preserved : goal.entries-preserved
entries-preserved c = (
  left_next (next_relation c.args.users.now.names (table_view c.args.all.now)) names_of c.args.all.now.entries _ (shapes c.entries.relations.items)
      (shapes c.next_relation.new.relations.items)
      c.entries.key-iterator (c.in-Some.key.now, c.in-Some.value.now) c.next.new.self c.in-Some.ensures.steps c.entries.invariant.0
      (rw (← c.as_str.ensures.value) c.in_default.ensures.read) (rw (← c.as_str.ensures.value) c.in_default.ensures.next.names),
  c.in_default.ensures.next.kept,
)

pub returns-clause-sound : goal.returns-clause-sound
returns-clause-sound c =
    let count = left_count (next_relation c.args.users.now.names (table_view c.args.all.now)) names_of c.args.all.now.entries _
    (shapes c.entries.relations.items) c.entries.key-iterator c.in-None.ensures.steps.0 c.entries.invariant.0 in
    let all = count_entries c.args.all.now.entries in
    sound_of (length c.args.users.now.names) (entries (table_view c.args.all.now)) (shapes c.entries.relations.items) c.entries.invariant.1 c.requires.users
    (omega (arith, count, all, names_count (shapes c.entries.relations.items))) (omega (arith, all, c.requires.few))

pub returns-clause-related : goal.returns-clause-related
returns-clause-related c =
    related_of (length c.args.users.now.names) (entries (table_view c.args.all.now)) (shapes c.entries.relations.items) c.entries.invariant.1

pub returns-clause-ascend : goal.returns-clause-ascend
returns-clause-ascend c =
    left_ascend (next_relation c.args.users.now.names (table_view c.args.all.now)) names_of c.args.all.now.entries _ (shapes c.entries.relations.items)
    c.entries.key-iterator c.in-None.ensures.steps.0 c.entries.invariant.0
