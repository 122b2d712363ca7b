use Rattle.std.proofs.Common.{subst}
use Rattle.basics.specs.Laws.Reading.{cause_of, Fails}
use Rattle.wf_board.specs.Boards.{book_of}
use Rattle.wf_board.specs.Decisions.{decision_of}
use Rattle.wf_board.proofs.Admission.{cause_bare}
use Rattle.wf_board.proofs.admit.admit.Goals as goal

pub is_denied-requires : goal.is_denied-requires
is_denied-requires c =
    let b = book_of c.args.p.now c.args.cases.now in
    cause_bare b c.args.ask.now c.in-Err-Cause.cause
    (subst (λ e. Fails (cause_of e) (decision_of b c.args.ask.now)) c.in-Err-Cause.field-0-is c.in-Err-Cause.ensures.decision)
