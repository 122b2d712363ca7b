-- The branches of a tree are smaller than the tree, by which a walk over them ends.
use denote.Param.Weighed.{most}
use Rattle.std.proofs.Common.{◌≡◌, ℕ, ◌<◌, ◌≤◌, ◌+◌, ◌*◌, List, [], ◌∷◌, sym, subst, arith}
use Rattle.refutation_tree.specs.Tree.{Kids, size_of_kids}
use Rattle.refutation_tree.specs.Laws.Views.{kids_of_items}
use Rattle.refutation_tree.specs.Falls.{falls}
use Rattle.refutation_tree.specs.declared.tree.Branch.{Branch}
use Rattle.refutation_tree.specs.declared.tree.Tree.{Tree}
use Rattle.refutation_tree.specs.declared.tree.Tree.TheVariants.{Step}
use Rattle.refutation_tree.specs.declared.tree.Branches.TheDeep.{deep-Branch, deep-Tree, size-Branch}

-- the sizes by which a walk is measured, from the depths
most_sizes : (bs : List Branch) → most (λ b. size-Branch b) bs ≤ 4 * most (λ b. deep-Branch b) bs + 3
most_sizes [] = omega arith
most_sizes (b ∷ bs) = omega (arith, most_sizes bs)

below : (s : ℕ) (kids : Kids) (bs : List Branch) → kids ≡ kids_of_items bs → most (λ b. size-Branch b) bs < 4 * deep-Tree (Step s kids)
below s kids bs items =
    let small : most (λ b. deep-Branch b) bs ≤ size_of_kids kids =
    subst (λ k. most (λ b. deep-Branch b) bs ≤ size_of_kids k) (sym items) (omega (arith, falls bs)) in
    omega (arith, most_sizes bs, small)

pub branches_below : (tree : Tree) (s : ℕ) (kids : Kids) (bs : List Branch) → tree ≡ Step s kids → kids ≡ kids_of_items bs →
    most (λ b. size-Branch b) bs < 4 * deep-Tree tree
branches_below tree s kids bs is items = subst (λ t. most (λ b. size-Branch b) bs < 4 * deep-Tree t) (sym is) (below s kids bs items)
