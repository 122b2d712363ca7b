use Rattle.std.proofs.Common.{◌≡◌, ◌≤◌, ◌-◌, drop, length}
use Rattle.refutation_tree.specs.Laws.Views.{kids_of_items}
use Rattle.policy_book.specs.Course.{problem_in}
use Rattle.policy_book.specs.Laws.Refuting.{authorised_users, have_users, passing}
use Rattle.certificate_check.proofs.tree.have_users.Given as goal

abbrev pub invariant-users : goal.invariant-users
invariant-users l =
    (l.next ≤ length l.branches) × (l.from ≤ (problem_in l.fn.course).users) ×
    (have_users (passing ((problem_in l.fn.course).authorised l.fn.s) l.from ((problem_in l.fn.course).users - l.from))
    (kids_of_items (drop l.next l.branches)) ≡
    have_users (authorised_users (problem_in l.fn.course) l.fn.s) (kids_of_items l.branches))

abbrev pub decreases-users : goal.decreases-users
decreases-users l = length l.branches - l.next
