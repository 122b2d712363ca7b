use Rattle.std.proofs.Common.{◌≡◌, drop}
use Rattle.refutation_tree.specs.Tree.{joined}
use Rattle.refutation_tree.specs.Laws.Views.{kids_of_items}
use Rattle.refutation_tree.proofs.tree.+copy.Given as goal

abbrev pub invariant-Branches::copy-branches : goal.invariant-Branches::copy-branches
invariant-Branches::copy-branches l = joined l.copies (kids_of_items (drop l.branch-index l.branch-items)) ≡ kids_of_items l.branch-items
