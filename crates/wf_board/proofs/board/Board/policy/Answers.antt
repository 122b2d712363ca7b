use Rattle.std.proofs.Common.{subst}
use Rattle.policy_book.specs.Laws.Facts.{IsSoundPolicy}
use Rattle.wf_board.specs.Boards.{state_on}
use Rattle.wf_board.specs.Laws.Kept.{IsSoundState, KeepsCompletable}
use Rattle.wf_board.proofs.Answering.{board_completes, board_sound}
use Rattle.wf_board.proofs.board.Board.policy.Goals as goal

pub returns-clause-sound : goal.returns-clause-sound
returns-clause-sound c =
    subst (λ b. IsSoundState (state_on b)) c.self.view_is
    (board_sound _ c.self.inside.cases c.self.inside.edits (subst IsSoundPolicy c.deref-policy.ensures c.admin-sound.ensures.sound) c.self.invariant.0)

pub returns-clause-kept : goal.returns-clause-kept
returns-clause-kept c =
    subst (λ b. KeepsCompletable (state_on b)) c.self.view_is (board_completes _ c.self.inside.cases c.self.inside.edits c.self.invariant.0)
