use Rattle.std.proofs.Common.{arith}
use Rattle.refutation_tree.proofs.ShapeLaws.{kids_of_items-push}
use Rattle.refutation_tree.proofs.tree.Branches.push.Goals as goal

pub returns-clause-ok : goal.returns-clause-ok
returns-clause-ok c = grind (arith, kids_of_items-push)
