use Rattle.std.proofs.Common.{◌≡◌, true}
use Rattle.policy_book.specs.Course.{problem_in}
use Rattle.policy_book.specs.Laws.Twins.{agree, all_below}
use Rattle.certificate_check.proofs.alike.may_do_the_same.Given as goal

abbrev pub invariant-steps : goal.invariant-steps
invariant-steps l = all_below l.s (λ s. agree ((problem_in l.course).authorised s l.u) ((problem_in l.course).authorised s l.v)) ≡ true
