use Rattle.std.proofs.Common.{◌≡◌, not, sym, ap, subst, ◌∙◌}
use Rattle.wf_board.specs.Boards.{book_of}
use Rattle.wf_board.specs.Decisions.{needs_verdict}
use Rattle.wf_board.specs.Taking.{undenied}
use Rattle.wf_board.proofs.Certificates.{claim_needs}
use Rattle.wf_board.proofs.decision.is_undecided.Goals as goal

pub returns-in-Claim : goal.returns-in-Claim
returns-in-Claim c =
    let b = book_of c.args.p.now c.args.cases.now in
    let k = c.in-Claim in
    subst (λ d. not c.has_cause.result ≡ needs_verdict (undenied b d)) (sym k.is) (ap not c.has_cause.ensures ∙ claim_needs b k.duty _)
