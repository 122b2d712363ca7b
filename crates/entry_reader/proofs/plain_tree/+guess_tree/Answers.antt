use Rattle.std.proofs.Common.{sym, subst}
use Rattle.refutation_tree.specs.Tree.{no_kids}
use Rattle.refutation_tree.specs.Laws.Views.{branch_onto}
use Rattle.entry_reader.specs.Plain.{AreLow}
use Rattle.entry_reader.proofs.LowTrees.{low_more}
use Rattle.entry_reader.proofs.plain_tree.+guess_tree.Goals as goal

pub guess_branches-branches-preserved : goal.guess_branches-branches-preserved
guess_branches-branches-preserved t c =
    let p = c.args.course.now.policy.now in
    let f = c.args.course.now.number in
    let height = c.args.height in
    subst (AreLow p f height) (sym c.in_ok-push.ensures.ok)
    (low_more p f height c.branches.branches (branch_onto c.in_ok-guess_branch.field-0 no_kids) c.branches.invariant c.in_ok-guess_branch.ensures)
