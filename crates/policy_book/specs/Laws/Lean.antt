-- Lean trees: refuting trees without a branch that is not needed.
use Rattle.std.specs.Prelude.{ℕ, Bool, true, not, ◌&&◌, List, [], ◌∷◌, Option, Some, slice_set}
use Rattle.refutation_tree.specs.Tree.{Shape, Kids, holder, rule, node, no_kids, tree_kid}
use Rattle.refutation_tree.specs.Tree.{twin_kid}
use Rattle.policy_book.specs.Laws.Plans.{Problem}
use Rattle.policy_book.specs.Laws.Refuting.{mentions}
use Rattle.policy_book.specs.Laws.Twins.{has_twin}

abbrev mutual
  -- a tree is lean for an assignment: leaves are
  pub is_lean : Problem → List (Option ℕ) → Shape → Bool
  is_lean p assigned (holder s) = true
  is_lean p assigned (rule k) = true
  is_lean p assigned (node s kids) = are_lean p assigned s [] kids

  -- each tree of a step's branches mentions the step, is lean for what then is assigned, and is no
  -- tree of a twin of an earlier branch with a tree
  pub are_lean : Problem → List (Option ℕ) → ℕ → List ℕ → Kids → Bool
  are_lean p assigned s earlier no_kids = true
  are_lean p assigned s earlier (tree_kid u t kids) =
      (is_lean p (slice_set assigned s (Some u)) t &&
      (mentions p.rules s t && not (has_twin p assigned u earlier))) &&
      are_lean p assigned s (u ∷ earlier) kids
  are_lean p assigned s earlier (twin_kid u v kids) = are_lean p assigned s earlier kids
