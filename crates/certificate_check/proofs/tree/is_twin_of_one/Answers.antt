use Rattle.std.proofs.Common.{sym}
use Rattle.policy_book.specs.Course.{problem_in}
use Rattle.certificate_check.proofs.Trees.{tree_user_below}
use Rattle.certificate_check.proofs.tree.is_twin_of_one.Goals as goal

pub twins-requires-clause-second : goal.twins-requires-clause-second
twins-requires-clause-second c =
    tree_user_below (problem_in c.args.course.now).users c.args.branches.now c.args.twin c.requires.users (sym c.if-has_tree.ensures)
