use Rattle.std.proofs.Common.{sym, subst, arith}
use Rattle.user_relations.specs.Rows.{AreListedTo}
use Rattle.user_relations.proofs.Listing.{listed_none, listed_all}
use Rattle.user_relations.proofs.blocks.pairs.Goals as goal

pub rows-init : goal.rows-init
rows-init c = subst (AreListedTo c.args.blocks.now 0 0) (sym c.requires) (listed_none c.args.blocks.now)

pub returns-clause-pairs : goal.returns-clause-pairs
returns-clause-pairs c = grind (arith, listed_all)
