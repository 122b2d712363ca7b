use Rattle.std.proofs.Common.{◌≡◌, ◌++◌, drop}
use Rattle.serde_json.specs.Data.{array}
use Rattle.serde_json.specs.View.{items_of}
use Rattle.serde_json.specs.Written.{compact_text, items_text}
use Rattle.refutation_tree.specs.Laws.Views.{kids_of_items}
use Rattle.wire_json.specs.Trees.{branches_data}
use Rattle.wire_json.proofs.tree_text.+push_tree.Given as goal

abbrev pub invariant-push_branches-branches : goal.invariant-push_branches-branches
invariant-push_branches-branches l =
    l.out.items ++ items_text l.later (items_of (branches_data l.p l.f (kids_of_items (drop l.branch-index l.branches))))
    ≡ l.fn.out.items ++ compact_text (array (items_of (branches_data l.p l.f (kids_of_items l.branches))))
