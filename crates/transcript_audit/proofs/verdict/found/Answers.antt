use Rattle.std.proofs.Common.{◌≡◌, ◌≢◌, true, subst}
use Rattle.wf_board.specs.declared.verdict.Verdict.TheVariants as verdicts
use Rattle.wf_board.specs.Boards.{book_on}
use Rattle.wf_board.specs.Decisions.{decision_aside, needs_verdict}
use Rattle.wf_board.specs.Verdicts.{IsRight}
use Rattle.wf_board.proofs.Snaps.{snap_needs, snaps_suffice}
use Rattle.transcript_audit.proofs.verdict.found.Goals as goal

pub returns-in-Ok-clause-right : goal.returns-in-Ok-clause-right
returns-in-Ok-clause-right g c =
    snaps_suffice c.args.board.now c.args.ask.now c.in-Ok.snap.cases.spare c.decide.result
    (subst (λ s. IsRight (book_on s) c.args.ask.now c.decide.result) c.in-Ok.ensures c.decide.ensures.right)

pub returns-in-Ok-clause-given : goal.returns-in-Ok-clause-given
returns-in-Ok-clause-given g c =
    subst (λ s. needs_verdict (decision_aside (book_on s) c.args.ask.now) ≡ true → c.decide.result ≢ verdicts.Nothing) c.in-Ok.ensures
    c.decide.ensures.something
    (snap_needs c.args.board.now c.args.ask.now c.in-Ok.snap.cases.spare c.requires.needed)
