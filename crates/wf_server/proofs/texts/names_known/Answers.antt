use Rattle.std.proofs.Common.{ap, subst, ◌∙◌}
use Rattle.wf_board.specs.Boards.{BoardShape}
use Rattle.wf_board.specs.Laws.States.{State}
use Rattle.entry_reader.specs.Named.{HasNames}
use Rattle.wf_server.proofs.texts.names_known.Goals as goal

pub returns : goal.returns
returns c =
    subst HasNames
    (c.policy.ensures.policy ∙ ap (λ (b : BoardShape). b.policy) c.board.ensures.board ∙ ap (λ (s : State). s.book.policy) c.board.ensures.sound.state)
    c.know_names.ensures
