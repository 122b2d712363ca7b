use Rattle.std.proofs.Common.{◌≡◌, ◌||◌, ◌==◌, true}
use Rattle.policy_book.specs.Course.{problem_in}
use Rattle.policy_book.specs.Laws.Twins.{all_below, is_alike_to}
use Rattle.certificate_check.proofs.alike.are_alike_to_each.Given as goal

abbrev pub invariant-users : goal.invariant-users
invariant-users l = all_below l.w (λ w. (w == l.u || w == l.v) || is_alike_to ((problem_in l.course).related l.rho) l.u l.v w) ≡ true
