use Rattle.std.proofs.Common.{◌≡◌, ◌+◌, ◌*◌, drop}
use Rattle.std.specs.Prelude.{option_map}
use Rattle.serde_json.specs.Data.{depth, items_depth}
use Rattle.serde_json.specs.View.{view, items_view}
use Rattle.refutation_tree.specs.Tree.{joined}
use Rattle.entry_reader.specs.Values.{kids_in}
use Rattle.entry_reader.proofs.tree.+read_tree.Given as goal

abbrev pub decreases-read_tree : goal.decreases-read_tree
decreases-read_tree l = 2 * depth (view l.value.now)

abbrev pub decreases-read_node : goal.decreases-read_node
decreases-read_node l = 2 * depth (view l.users.now) + 1

abbrev pub decreases-read_branches : goal.decreases-read_branches
decreases-read_branches l = 2 * items_depth (items_view l.items.now) + 1

abbrev pub decreases-read_branch : goal.decreases-read_branch
decreases-read_branch l = 2 * depth (view l.value.now)

abbrev pub invariant-read_branches-items : goal.invariant-read_branches-items
invariant-read_branches-items l =
    kids_in l.p l.f (items_view l.items) ≡ option_map (joined l.branches) (kids_in l.p l.f (items_view (drop l.item-index l.items)))
