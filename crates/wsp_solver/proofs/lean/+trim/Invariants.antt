use Rattle.std.proofs.Common.{◌≡◌, ◌+◌, ◌*◌, ℕ, true}
use Rattle.constraint_forms.specs.Assign.{is_member}
use Rattle.refutation_tree.specs.Tree.{nodes_of, nodes_of_kids}
use Rattle.refutation_tree.specs.Laws.Views.{kids_of_items, shape_of}
use Rattle.wsp_solver.specs.Task.{asked}
use Rattle.wsp_solver.proofs.Trimming.{IsTrimmedFront}
use Rattle.wsp_solver.proofs.lean.+trim.Given as goal

abbrev pub decreases-trim_tree : goal.decreases-trim_tree
decreases-trim_tree l = 2 * nodes_of (shape_of l.tree.now)

abbrev pub decreases-trim_node : goal.decreases-trim_node
decreases-trim_node l = 2 * nodes_of_kids (kids_of_items l.branches.now) + 1

abbrev pub invariant-trim_node-branches : goal.invariant-trim_node-branches
invariant-trim_node-branches l = IsTrimmedFront (asked l.task) l.a l.task.done.now l.s l.branches l.branch-index l.kept l.steps ×
    ((t : ℕ) → is_member l.last t ≡ true → is_member l.steps t ≡ true)
