-- The pure data that trees and branches are.
use Rattle.std.specs.Prelude.{ℕ, List, [], ◌∷◌}
use Rattle.refutation_tree.specs.Tree.{Shape, Kids, holder, rule, node, no_kids, tree_kid}
use Rattle.refutation_tree.specs.Tree.{twin_kid}
use Rattle.refutation_tree.specs.declared.tree.Tree.{Tree}
use Rattle.refutation_tree.specs.declared.tree.Tree.TheVariants.{Holder, Rule, Step}
use Rattle.refutation_tree.specs.declared.tree.Branch.{Branch}
use Rattle.refutation_tree.specs.declared.tree.Kid.{Kid}
use Rattle.refutation_tree.specs.declared.tree.Kid.TheVariants.{Tree as Tree_kid, Twin}

-- the data that a tree is
abbrev pub shape_of : Tree → Shape
shape_of (Holder s) = holder s
shape_of (Rule k) = rule k
shape_of (Step s kids) = node s kids

-- a user's branch, and the others behind it
abbrev pub kid_onto : Kid → ℕ → Kids → Kids
kid_onto (Tree_kid t) u rest = tree_kid u (shape_of t) rest
kid_onto (Twin v) u rest = twin_kid u v rest

-- a branch, and the others behind it
abbrev pub branch_onto : Branch → Kids → Kids
branch_onto b rest = kid_onto b.kid b.user rest

-- the data that a list of branches is
abbrev pub kids_of_items : List Branch → Kids
kids_of_items [] = no_kids
kids_of_items (b ∷ bs) = branch_onto b (kids_of_items bs)
