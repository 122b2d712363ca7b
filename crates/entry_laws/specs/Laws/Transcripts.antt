-- What is written of a history.
use Rattle.std.specs.Prelude.{ℕ, List, [], ◌∷◌}
use Rattle.std.specs.List.{concat}
use Rattle.wf_talk.specs.declared.entry.Entry.{Entry}
use Rattle.wf_board.specs.Laws.States.{State}
use Rattle.wf_board.specs.Laws.Steps.{state_after_step}
use Rattle.wire_json.specs.Replies.{entry_text}

-- the texts of entries, in order, each with the names of the policy after it
abbrev pub texts_of : State → List Entry → List (List ℕ)
texts_of s [] = []
texts_of s (e ∷ es) =
    let after = state_after_step s e.ask e.reply in
    entry_text after.book.policy e ∷ texts_of after es

-- one behind the other
abbrev pub transcript_text : State → List Entry → List ℕ
transcript_text s entries = concat (texts_of s entries)
