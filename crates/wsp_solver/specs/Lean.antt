-- What is kept of a tree that is trimmed.
use Rattle.std.specs.Prelude.{ℕ, ◌≤◌, Bool, List, ◌∷◌, Option, IsTrue}
use Rattle.refutation_tree.specs.Tree.{Shape, Kids, no_kids, tree_kid, twin_kid, nodes_of}
use Rattle.refutation_tree.specs.Laws.Views.{shape_of}
use Rattle.refutation_tree.specs.declared.tree.Tree.{Tree}
use Rattle.policy_book.specs.Laws.Plans.{Problem}
use Rattle.policy_book.specs.Laws.Refuting.{refutes}
use Rattle.policy_book.specs.Laws.Lean.{is_lean}
use Rattle.wsp_solver.specs.declared.leaf.Refutation.{Refutation}
use Rattle.wsp_solver.specs.Searches.{AreMentioned}

-- a tree refutes and is lean, and has at most as many leaves and nodes as another
pub record IsTrimmed (p : Problem) (assigned : List (Option ℕ)) (finished : List Bool)
    (old : Shape) (tree : Tree) : Type 0 where
  pub refutes : IsTrue (refutes p assigned finished (shape_of tree))
  pub lean : IsTrue (is_lean p assigned (shape_of tree))
  pub few : nodes_of (shape_of tree) ≤ nodes_of old

-- the same, and the set beside the tree has the steps that it mentions
pub record IsTrimming (p : Problem) (assigned : List (Option ℕ)) (finished : List Bool)
    (old : Shape) (r : Refutation) : Type 0 where
  pub tree : IsTrimmed p assigned finished old r.tree
  pub steps : AreMentioned p.rules (shape_of r.tree) r.steps

-- the users of the branches that have trees, the last one first, before other users
abbrev pub kid_users : List ℕ → Kids → List ℕ
kid_users users no_kids = users
kid_users users (tree_kid u t kids) = kid_users (u ∷ users) kids
kid_users users (twin_kid u v kids) = kid_users users kids
