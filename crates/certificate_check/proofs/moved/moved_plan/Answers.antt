use Rattle.std.proofs.Common.{◌≡◌, ℕ, List, Some, slice_get, slice_set, true, subst, sym, arith}
use Rattle.std.proofs.lemmas.Grind.{common_steps}
use Rattle.policy_book.specs.Policies.{is_authorised, problem_of}
use Rattle.policy_book.specs.Laws.Plans.{IsValidPlan}
use Rattle.certificate_check.specs.Plan.{keeps_rule}
use Rattle.certificate_check.proofs.Moving.{moved_valid}
use Rattle.certificate_check.proofs.moved.moved_plan.Goals as goal

pub returns-then-keeps_rules-clause-valid : goal.returns-then-keeps_rules-clause-valid
returns-then-keeps_rules-clause-valid c a done valid =
    let p = problem_of c.args.p.now c.args.f in
    let s = c.args.step in
    let u = c.args.user in
    let may : is_authorised c.args.p.now c.args.f s u ≡ true = grind (arith, common_steps, c.authorised.ensures, c.if-not-authorised.false) in
    subst (λ (plan : List ℕ). IsValidPlan p (slice_set a s (Some u)) done plan) (sym c.with_user-moved.ensures)
    (moved_valid p c.args.plan.now s u c.requires.step c.requires.user may
    (λ k below. subst (λ (plan : List ℕ). keeps_rule p plan s (slice_get p.rules k) ≡ true) c.with_user-moved.ensures
    (c.keeps_rules.ensures c.if-keeps_rules.true k below))
    a done valid)
