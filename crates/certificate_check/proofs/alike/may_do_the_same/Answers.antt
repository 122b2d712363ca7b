use Rattle.std.proofs.Common.{◌≡◌, ℕ, List, length, sym, ap, ◌∙◌, arith}
use Rattle.policy_book.specs.Course.{problem_in}
use Rattle.policy_book.specs.Laws.Twins.{agree}
use Rattle.certificate_check.proofs.Below.{one_fails}
use Rattle.certificate_check.proofs.alike.may_do_the_same.Goals as goal

steps_known : (n : ℕ) (names steps : List (List ℕ)) → n ≡ length names → names ≡ steps → n ≡ length steps
steps_known n names steps count same = count ∙ ap length same

pub returns-then-not-may_both_or_neither : goal.returns-then-not-may_both_or_neither
returns-then-not-may_both_or_neither c =
    let known = steps_known _ _ _ c.len-s-end.ensures.count (c.steps-2.ensures.names ∙ ap (λ w. w.steps) c.flow.ensures.flow) in
    sym (one_fails (problem_in c.args.course.now).steps c.steps.s (λ s. agree ((problem_in c.args.course.now).authorised s c.args.u)
    ((problem_in c.args.course.now).authorised s c.args.v)) (omega (arith, known, c.steps-test.true)) (sym c.if-not-may_both_or_neither.ensures))
