-- Inside: what is written of entries is the same with the names of a later policy.
use Rattle.std.specs.Prelude.{◌≡◌, List, ◌++◌}
use Rattle.wf_talk.specs.declared.entry.Entry.{Entry}
use Rattle.wf_board.specs.Laws.States.{opening_state}
use Rattle.wf_board.specs.Laws.Histories.{IsLegal, state_after}
use Rattle.wf_desk.specs.Desks.{DeskShape}
use Rattle.entry_laws.specs.Laws.Transcripts.{transcript_text}
use Rattle.wf_server.specs.Batches.{entries_text}

-- whatever entries come behind those of a desk, in a legal history, each written with the names of
-- the policy after it, are written as with the names of the policy after them all
abbrev pub KeepsTexts : DeskShape → Type 0
KeepsTexts d =
    (more : List Entry) → IsLegal (opening_state d.opening) d.rounds (d.entries ++ more) →
    transcript_text (state_after (opening_state d.opening) d.entries) more
    ≡ entries_text (state_after (opening_state d.opening) (d.entries ++ more)).book.policy more
