use Rattle.std.proofs.Common.{◌≡◌, ℕ, List, ◌||◌, ◌==◌, length, sym, ap, ◌∙◌, arith}
use Rattle.policy_book.specs.Course.{problem_in}
use Rattle.policy_book.specs.Laws.Twins.{is_alike_to}
use Rattle.certificate_check.proofs.Below.{one_fails}
use Rattle.certificate_check.proofs.alike.are_alike_to_each.Goals as goal

users_known : (n : ℕ) (names users : List (List ℕ)) → n ≡ length names → names ≡ users → n ≡ length users
users_known n names users count same = count ∙ ap length same

pub returns-then-not-are_alike_to : goal.returns-then-not-are_alike_to
returns-then-not-are_alike_to c =
    let known = users_known _ _ _ c.len-w-end.ensures.count (c.users-2.ensures.names ∙ ap (λ r. r.users) c.roster.ensures.roster) in
    sym (one_fails (problem_in c.args.course.now).users
    c.users.w (λ w. (w == c.args.u || w == c.args.v) || is_alike_to ((problem_in c.args.course.now).related c.args.rho) c.args.u c.args.v w)
    (omega (arith, known, c.users-test.true)) (sym c.if-not-are_alike_to.ensures))
