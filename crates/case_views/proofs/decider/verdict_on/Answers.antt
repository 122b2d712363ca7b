use Rattle.std.proofs.Common.{sym, subst}
use Rattle.wf_board.specs.Boards.{book_of}
use Rattle.wf_board.specs.Deeds.{DecidesDeed}
use Rattle.case_views.proofs.Deciding.{decides_claim, decides_open}
use Rattle.case_views.proofs.decider.verdict_on.Goals as goal

pub returns-in-Open : goal.returns-in-Open
returns-in-Open g c =
    let b = book_of c.args.survey.now.policy.now c.args.survey.now.cases.now in
    subst (λ d. DecidesDeed b d c.open_verdict.result) (sym c.in-Open.is)
    (decides_open b c.in-Open.flow c.open_verdict.result c.open_verdict.ensures)

pub returns-in-Claim : goal.returns-in-Claim
returns-in-Claim g c =
    let b = book_of c.args.survey.now.policy.now c.args.survey.now.cases.now in
    subst (λ d. DecidesDeed b d c.claim_verdict.result) (sym c.in-Claim.is)
    (decides_claim b c.in-Claim.duty c.claim_verdict.result c.claim_verdict.ensures)
