use denote.Param.Weighed.{most}
use Rattle.std.proofs.Common.{◌≡◌, ◌+◌, ◌*◌, drop, take, []}
use Rattle.refutation_tree.specs.declared.tree.Branches.TheDeep.{deep-Tree, size-Branch}
use Rattle.refutation_tree.specs.Laws.Views.{kids_of_items}
use Rattle.policy_book.specs.Course.{problem_in}
use Rattle.policy_book.specs.Laws.Refuting.{all_refute}
use Rattle.certificate_check.specs.Walks.{tree_users}
use Rattle.certificate_check.proofs.tree.+check.Given as goal

abbrev pub invariant-all_refute-branches : goal.invariant-all_refute-branches
invariant-all_refute-branches l =
    all_refute (problem_in l.course) l.a l.done l.s (tree_users [] (take l.i l.branches)) (kids_of_items (drop l.i l.branches)) ≡ all_refute
    (problem_in l.course) l.a l.done l.s [] (kids_of_items l.branches)

abbrev pub decreases-refutes : goal.decreases-refutes
decreases-refutes l = 3 * (4 * deep-Tree l.tree.now)

abbrev pub decreases-all_refute : goal.decreases-all_refute
decreases-all_refute l = 3 * most (λ b. size-Branch b) l.branches.now + 2

abbrev pub decreases-branch_refutes : goal.decreases-branch_refutes
decreases-branch_refutes l = 3 * size-Branch l.branch.now + 1
