-- What is written for a tree that refutes, with the names of users and steps.
use Rattle.std.specs.Prelude.{ℕ, List, [], ◌∷◌, codes}
use Rattle.serde_json.specs.Data.{Data, number, unsigned, array, object, no_members, member}
use Rattle.serde_json.specs.View.{items_of}
use Rattle.refutation_tree.specs.Tree.{Shape, Kids, holder, rule, node, no_kids, tree_kid}
use Rattle.refutation_tree.specs.Tree.{twin_kid}
use Rattle.refutation_tree.specs.Laws.Views.{shape_of}
use Rattle.refutation_tree.specs.declared.tree.Branch.{Branch}
use Rattle.refutation_tree.specs.declared.tree.Kid.{Kid}
use Rattle.refutation_tree.specs.declared.tree.Kid.TheVariants as kid
use Rattle.policy_book.specs.Laws.Shapes.{PolicyShape}
use Rattle.wire_json.specs.Entries.{single, user_data, step_data}

-- a step, and the users who are tried for it
abbrev pub node_data : PolicyShape → ℕ → ℕ → Data → Data
node_data p f s users =
    object (member (codes "step") (step_data p f s) (member (codes "users") users no_members))

abbrev mutual
  -- a tree over a workflow's steps
  pub tree_data : PolicyShape → ℕ → Shape → Data
  tree_data p f (holder s) = single (codes "holder") (step_data p f s)
  tree_data p f (rule k) = single (codes "rule") (number (unsigned k))
  tree_data p f (node s kids) = node_data p f s (array (items_of (branches_data p f kids)))

  -- of each branch its user, and its tree or the leaf that names a twin
  pub branches_data : PolicyShape → ℕ → Kids → List Data
  branches_data p f no_kids = []
  branches_data p f (tree_kid u t kids) =
      array (items_of (user_data p u ∷ tree_data p f t ∷ [])) ∷ branches_data p f kids
  branches_data p f (twin_kid u v kids) =
      array (items_of (user_data p u ∷ single (codes "twin") (user_data p v) ∷ [])) ∷
      branches_data p f kids

-- inside: the tree of a branch, or the leaf that names a twin
abbrev pub kid_data : PolicyShape → ℕ → Kid → Data
kid_data p f (kid.Tree t) = tree_data p f (shape_of t)
kid_data p f (kid.Twin v) = single (codes "twin") (user_data p v)

-- inside: a user with the tree, or with the leaf that names a twin
abbrev pub branch_data : PolicyShape → ℕ → Branch → Data
branch_data p f b = array (items_of (user_data p b.user ∷ kid_data p f b.kid ∷ []))
