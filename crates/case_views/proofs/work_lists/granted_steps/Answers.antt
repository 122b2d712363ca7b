use Rattle.std.proofs.Common.{sym, subst}
use Rattle.case_record.specs.Cases.{CaseShape}
use Rattle.wf_board.specs.Edition.{IsPlanOf}
use Rattle.case_views.specs.Granting.{TellsSteps}
use Rattle.case_views.proofs.work_lists.granted_steps.Goals as goal

pub known_steps-requires-clause-valid : goal.known_steps-requires-clause-valid
known_steps-requires-clause-valid c = subst (λ (k : CaseShape). IsPlanOf c.args.p.now k c.args.kept.now) (sym c.case.ensures) c.requires.valid

pub returns : goal.returns
returns c =
    let p = c.args.p.now in
    let told = subst (λ (k : CaseShape). TellsSteps p c.args.u k c.in_ok-found.found) c.case.ensures c.in_ok-found.ensures.told in
    record { steps = c.in_ok-items_of.ensures p c.args.u told; right = c.in_ok-found.ensures.right }
