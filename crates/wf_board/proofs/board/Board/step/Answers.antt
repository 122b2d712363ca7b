use Rattle.std.proofs.Common.{subst}
use Rattle.std.specs.Arc.{arc_value}
use Rattle.wf_board.specs.Boards.{book_of}
use Rattle.wf_board.specs.Decisions.{decision_of}
use Rattle.wf_board.specs.Deeds.{HasStepped, IsLeftTo, answered_of}
use Rattle.wf_board.specs.Taking.{HasAnsweredAlone, board_of}
use Rattle.wf_board.proofs.Small.{stepped_small}
use Rattle.wf_board.proofs.board.Board.step.Goals as goal

pub returns-clause-stepped : goal.returns-clause-stepped
returns-clause-stepped c =
    let p = arc_value c.self.inside.policy in
    let edits = c.self.inside.edits in
    let before = c.self.inside.cases in
    let after = c.step.new.cases in
    let what = c.args.ask.now in
    let alone = subst (λ q. HasAnsweredAlone q before after (decision_of (book_of q before) what) (answered_of c.step.result)) c.deref-policy.ensures
    c.step.ensures.alone in
    let left = subst (λ q. IsLeftTo q before what c.step.result) c.deref-policy.ensures c.step.ensures.left in
    subst (λ b. HasStepped b (board_of p after edits) what c.step.result) c.self.view_is (stepped_small p before after edits what c.step.result alone left)
