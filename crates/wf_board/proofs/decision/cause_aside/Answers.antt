use Rattle.std.proofs.Common.{◌≡◌, None, sym, subst}
use Rattle.wf_board.specs.Boards.{book_of}
use Rattle.wf_board.specs.Decisions.{cause_aside}
use Rattle.wf_board.proofs.decision.cause_aside.Goals as goal

pub returns-in-Claim-clause-cause : goal.returns-in-Claim-clause-cause
returns-in-Claim-clause-cause c =
    subst (λ d. None ≡ cause_aside (book_of c.args.p.now c.args.cases.now) d) (sym c.in-Claim.is) (sym (c.is_clear.ensures c.if-is_clear.true))
