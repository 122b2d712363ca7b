use Rattle.std.proofs.Common.{sym, subst, ap, ◌∙◌}
use Rattle.wf_board.specs.Breaking.{breaks, HasPlanFor}
use Rattle.wf_board.specs.Edition.{IsPlanOf}
use Rattle.wf_board.proofs.Unbroken.{has_plan, names_step, unbroken}
use Rattle.wf_board.proofs.breaking.may_break.Goals as goal

pub breaks-requires-clause-has : goal.breaks-requires-clause-has
breaks-requires-clause-has c =
    subst (λ q. HasPlanFor q c.args.case.now.flow c.args.plan.now) (sym c.args.revision.now.made)
    (has_plan c.args.revision.now.before.now c.args.revision.now.amendment.now c.args.case.now c.args.plan.now c.args.revision.now.allowed.found
    c.requires.known c.requires.valid)

pub breaks-requires-clause-step : goal.breaks-requires-clause-step
breaks-requires-clause-step c = names_step c.args.revision.now.before.now c.args.revision.now.amendment.now c.args.case.now c.args.plan.now
    c.args.revision.now.allowed.found c.requires.valid

pub returns : goal.returns
returns c = λ whole.
    let p = c.args.revision.now.before.now in
    let a = c.args.revision.now.amendment.now in
    let k = c.args.case.now in
    let plan = c.args.plan.now in
    let none = ap (λ q. breaks p q a k plan) (sym c.args.revision.now.made) ∙ sym c.breaks.ensures ∙ whole in
    subst (λ q. IsPlanOf q k plan) (sym c.args.revision.now.made) (unbroken p a k plan c.admin-sound.ensures.sound c.args.revision.now.allowed none
    c.requires.valid)
