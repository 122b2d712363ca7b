use Rattle.std.proofs.Common.{◌+◌, ◌-◌, drop, false, sym, ap, ◌∙◌, arith}
use Rattle.refutation_tree.specs.Laws.Views.{kids_of_items}
use Rattle.policy_book.specs.Course.{problem_in}
use Rattle.policy_book.specs.Laws.Refuting.{have_users, passing}
use Rattle.certificate_check.proofs.Trees.{none_next, passing_end, passing_next, users_next}
use Rattle.certificate_check.proofs.tree.have_users.Goals as goal

pub returns-then-not-is_of : goal.returns-then-not-is_of
returns-then-not-is_of c =
    let p = problem_in c.args.course.now in
    let row = c.authorised_row-row.ensures in
    let u = c.in-Some.user in
    let found = c.in-Some.ensures in
    let step = passing_next (p.authorised c.args.s) c.users.from u p.users found.from_on (row.known u found.member)
    (λ v low lt. sym (row.authorised v) ∙ found.least v low lt) (sym (row.authorised u) ∙ found.member) in
    sym (users_next u (passing (p.authorised c.args.s) (u + 1) (p.users - (u + 1))) c.args.branches.now c.users.next false c.if-not-is_of.ensures.user) ∙
    ap (λ us. have_users us (kids_of_items (drop c.users.next c.args.branches.now))) (sym step) ∙ c.users.invariant.2

pub users-preserved : goal.users-preserved
users-preserved c = grind (arith, passing_next, users_next)

pub returns : goal.returns
returns c = grind (arith, passing_end, none_next)
