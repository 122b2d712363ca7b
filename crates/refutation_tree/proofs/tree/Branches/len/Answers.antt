use Rattle.std.proofs.Common.{arith}
use Rattle.refutation_tree.proofs.ShapeLaws.{kid_count-items}
use Rattle.refutation_tree.proofs.tree.Branches.len.Goals as goal

pub returns : goal.returns
returns c = grind (arith, kid_count-items)
