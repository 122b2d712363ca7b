-- How deep the texts of trees nest.
use Rattle.std.proofs.Common.{ℕ, ◌-◌, ◌<◌, arith}
use Rattle.refutation_tree.specs.Tree.{Kids, node, no_kids, tree_kid, twin_kid, joined}
use Rattle.refutation_tree.specs.Laws.Views.{shape_of}
use Rattle.refutation_tree.specs.declared.tree.Tree.{Tree}
use Rattle.refutation_tree.specs.declared.tree.Kid.TheVariants as kid
use Rattle.policy_book.specs.Laws.Shapes.{PolicyShape}
use Rattle.entry_reader.specs.Laws.Within.{IsUser, IsStepOf}
use Rattle.entry_reader.specs.Plain.{IsLow, AreLow, IsLowKid}

pub low_node : (p : PolicyShape) (f height s : ℕ) (kids : Kids) → 0 < height → IsStepOf p f s → AreLow p f (height - 1) kids → IsLow p f height (node s kids)
low_node p f height s kids some step low = ((step, low.0), omega (arith, some, low.1))

pub low_none : (p : PolicyShape) (f height : ℕ) → AreLow p f height no_kids
low_none p f height = (tt, omega arith)

pub low_more : (p : PolicyShape) (f height : ℕ) (kids more : Kids) → AreLow p f height kids → AreLow p f height more → AreLow p f height (joined kids more)
low_more p f height no_kids more here later = later
low_more p f height (tree_kid u t kids) more here later = grind (arith, (low_more p f height kids more (here.0.2, omega (arith, here.1)) later))
low_more p f height (twin_kid u v kids) more here later = grind (arith, (low_more p f height kids more (here.0.2, omega (arith, here.1)) later))

pub low_tree : (p : PolicyShape) (f height : ℕ) (t : Tree) → IsLow p f height (shape_of t) → IsLowKid p f height (kid.Tree t)
low_tree p f height t low u user = ((user, low.0, tt), omega (arith, low.1))

pub low_twin : (p : PolicyShape) (f height v : ℕ) → IsUser p v → IsLowKid p f height (kid.Twin v)
low_twin p f height v twin u user = ((user, twin, tt), omega arith)
