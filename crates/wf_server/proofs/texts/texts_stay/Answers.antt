use Rattle.std.proofs.Common.{subst}
use Rattle.wf_board.specs.Boards.{BoardShape, state_on}
use Rattle.wf_board.specs.Laws.Kept.{IsSoundState, KeepsCompletable}
use Rattle.wf_server.proofs.Names.{desk_texts}
use Rattle.wf_server.proofs.texts.texts_stay.Goals as goal

pub returns : goal.returns
returns c =
    desk_texts c.args.desk.now c.board.ensures.sound
    (subst (λ (b : BoardShape). IsSoundState (state_on b)) c.board.ensures.board c.policy.ensures.sound)
    (subst (λ (b : BoardShape). KeepsCompletable (state_on b)) c.board.ensures.board c.policy.ensures.kept)
