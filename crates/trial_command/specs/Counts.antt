-- How often each kind of reply was given.
use Rattle.std.specs.Prelude.{ℕ, Bool, true, false, List, count_by}
use Rattle.wf_talk.specs.declared.entry.Entry.{Entry}
use Rattle.wf_talk.specs.declared.reply.Reply.{Reply}
use Rattle.wf_talk.specs.declared.reply.Reply.TheVariants.{Granted, Finished, Opened, Denied}
use Rattle.wf_talk.specs.declared.reply.Reply.TheVariants.{NoMemory}
use Rattle.wf_board.specs.Counting.{is_edited}
use Rattle.trial_command.specs.declared.counts.Counts.{Counts}

abbrev pub tells_opened : Reply → Bool
tells_opened (Opened case plan) = true
tells_opened reply = false

abbrev pub tells_granted : Reply → Bool
tells_granted (Granted plan) = true
tells_granted reply = false

abbrev pub tells_finished : Reply → Bool
tells_finished (Finished done) = true
tells_finished reply = false

abbrev pub tells_denied : Reply → Bool
tells_denied (Denied why) = true
tells_denied reply = false

abbrev pub tells_no_memory : Reply → Bool
tells_no_memory NoMemory = true
tells_no_memory reply = false

-- how many entries have such a reply
abbrev pub replies : (Reply → Bool) → List Entry → ℕ
replies is_such entries = count_by (λ e. is_such e.reply) entries

-- the counts of the six kinds
abbrev pub counts_of : List Entry → Counts
counts_of entries = record {
  opened = replies tells_opened entries;
  granted = replies tells_granted entries;
  finished = replies tells_finished entries;
  edited = replies is_edited entries;
  denied = replies tells_denied entries;
  no_memory = replies tells_no_memory entries;
}
