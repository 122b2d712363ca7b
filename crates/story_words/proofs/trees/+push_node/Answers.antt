use Rattle.std.proofs.Common.{arith}
use Rattle.refutation_tree.proofs.Depths.{branches_below}
use Rattle.story_words.proofs.trees.+push_node.Goals as goal

pub push_node-push_branches-requires : goal.push_node-push_branches-requires
push_node-push_branches-requires t c =
    omega (arith, branches_below c.args.tree.now c.in-Step.s c.in-Step.branches c.as_slice-branches.result.now c.in-Step.is c.as_slice-branches.ensures)
