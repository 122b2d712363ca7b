use Rattle.user_relations.specs.Rows.{AreListedTo}
use Rattle.user_relations.proofs.blocks.pairs.Given as goal

abbrev pub invariant-rows : goal.invariant-rows
invariant-rows l = AreListedTo l.blocks l.u 0 l.pairs.items
