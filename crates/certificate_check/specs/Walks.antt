-- Inside: what the walk over a node's branches looks at.
use Rattle.std.specs.Prelude.{ℕ, ◌<◌, Bool, false, ◌==◌, List, [], ◌∷◌}
use Rattle.refutation_tree.specs.Tree.{Kids, no_kids, tree_kid, twin_kid}
use Rattle.refutation_tree.specs.declared.tree.Branch.{Branch}
use Rattle.refutation_tree.specs.declared.tree.Kid.{Kid}
use Rattle.refutation_tree.specs.declared.tree.Kid.TheVariants.{Tree as Tree_kid, Twin}

-- the first branch is of a user
abbrev pub begins_with : ℕ → Kids → Bool
begins_with u no_kids = false
begins_with u (tree_kid v t kids) = u == v
begins_with u (twin_kid v w kids) = u == v

-- a user whose branch has a tree, before other users
abbrev pub kid_user_onto : Kid → ℕ → List ℕ → List ℕ
kid_user_onto (Tree_kid t) u users = u ∷ users
kid_user_onto (Twin v) u users = users

-- the users of the branches that have trees, the last one first, before other users
abbrev pub tree_users : List ℕ → List Branch → List ℕ
tree_users users [] = users
tree_users users (b ∷ bs) = tree_users (kid_user_onto b.kid b.user users) bs

-- each branch is of a user below n
abbrev pub AreUsersBelow : ℕ → Kids → Type 0
AreUsersBelow n no_kids = Unit {0}
AreUsersBelow n (tree_kid u t kids) = (u < n) × AreUsersBelow n kids
AreUsersBelow n (twin_kid u v kids) = (u < n) × AreUsersBelow n kids
