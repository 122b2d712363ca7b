use Rattle.std.proofs.Common.{◌≡◌, ◌≤◌, ◌+◌, ◌-◌, ◌^◌, drop}
use Rattle.refutation_tree.specs.Tree.{capped, nodes_of_kids}
use Rattle.refutation_tree.specs.Laws.Views.{kids_of_items}
use Rattle.refutation_tree.proofs.tree.+nodes.Given as goal

abbrev pub invariant-Branches::nodes-branches : goal.invariant-Branches::nodes-branches
invariant-Branches::nodes-branches l = (l.count ≤ 2 ^ 64 - 1) ×
    (capped (l.count + nodes_of_kids (kids_of_items (drop l.branch-index l.branch-items))) ≡ capped (nodes_of_kids (kids_of_items l.branch-items)))
