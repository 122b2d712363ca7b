-- Inside: a session that goes on behind the entries of an earlier one.
use Rattle.std.specs.Prelude.{◌≡◌, List, length, take, drop}
use Rattle.wf_talk.specs.declared.entry.Entry.{Entry}
use Rattle.wf_board.specs.Laws.Histories.{AreAnsweredOnce, AreRightful}
use Rattle.wf_desk.specs.Desks.{DeskShape}
use Rattle.command_words.specs.Laws.Words.{Options}
use Rattle.transcript_commands.specs.declared.start.Earlier.{Earlier}
use Rattle.wf_server.specs.Ways.{ServesOnce}

-- how an earlier session was served
abbrev pub options_by : Earlier → Options
options_by e = record { lanes = e.lanes; rounds = e.rounds }

-- entries go on behind those that were taken up: these stay as they were, what comes is rightful,
-- and by a way of serving that answers no request again none is
pub record GoOnBehind (Leaves : DeskShape → DeskShape → Type 0) (taken entries : List Entry) :
    Type 0 where
  pub begins : take (length taken) entries ≡ taken
  pub wants : AreRightful (drop (length taken) entries)
  pub once : ServesOnce Leaves → AreAnsweredOnce (drop (length taken) entries)
