use Rattle.std.proofs.Common.{◌≡◌, ◌++◌, drop}
use Rattle.std.specs.Prelude.{map}
use Rattle.serde_json.specs.View.{view}
use Rattle.refutation_tree.specs.Laws.Views.{kids_of_items}
use Rattle.wire_json.specs.Trees.{branches_data}
use Rattle.wire_json.proofs.tree.+tree_value.Given as goal

abbrev pub invariant-branches_value-branches : goal.invariant-branches_value-branches
invariant-branches_value-branches l =
    map view l.values.items ++ branches_data l.p l.f (kids_of_items (drop l.branch-index l.branches)) ≡ branches_data l.p l.f (kids_of_items l.branches)
