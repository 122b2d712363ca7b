-- A session: the lines of the input are answered, and the entries written.
use Rattle.std.specs.Prelude.{◌≡◌, ◌≢◌, ℕ, ◌-◌, ◌<◌, true, false, List, length, take, drop, max}
use Rattle.std.specs.Prelude.{Option}
use Rattle.std.proofs.Common.{◌⊎◌}
use Rattle.wf_outside.specs.Laws.Outside.{HasPart, with_bytes}
use Rattle.wf_talk.specs.declared.entry.Entry.{Entry}
use Rattle.line_reader.specs.declared.stop.Stop.TheVariants as stop
use Rattle.line_reader.specs.Jobs.{Cut, UpToAnEnd}
use Rattle.line_reader.specs.declared.batch_reader.Paused.{Paused}
use Rattle.line_reader.specs.declared.batch_reader.Paused.TheVariants as paused
use Rattle.line_reader.specs.BatchReader.{Handed, HasReadAll, StopsCutting, IsReadUp, ReadsBatch}
use Rattle.policy_book.specs.Laws.Shapes.{PolicyShape}
use Rattle.wf_board.specs.Laws.States.{opening_state}
use Rattle.wf_board.specs.Laws.Decided.{AreExact}
use Rattle.wf_board.specs.Laws.Kept.{KeepsCompletable}
use Rattle.wf_board.specs.Laws.Histories.{IsLegal, FillsJobs, batch_start, state_after}
use Rattle.run_record.specs.declared.fault.RunFault.{RunFault}
use Rattle.run_record.specs.declared.fault.RunFault.TheVariants.{Nothing, Read, Write, NoMemory}
use Rattle.run_record.specs.declared.fault.RunFault.TheVariants.{LineTooLong, TooManyLines}
use Rattle.run_record.specs.Fault.{CountsReads, CountsWrites}
use Rattle.run_record.specs.Report.{Told}
use Rattle.run_record.specs.Laws.Run.{Streams}
use Rattle.entry_laws.specs.Laws.Transcripts.{transcript_text}

-- how a session is served: the policy at its beginning, how many lanes there are, after how many
-- rounds a request that could not be decided is answered again, and how many entries were taken up
-- from an earlier session
pub record Setting : Type 0 where
  pub policy : PolicyShape
  pub lanes : ℕ
  pub rounds : ℕ
  pub restored : ℕ

-- the jobs that a report tells, as they were read behind what was cut before
abbrev pub handed_in : Cut → Told → Handed
handed_in first told = record { first = first; jobs = told.jobs; batch_ends = told.batch_ends }

-- nothing was read, and of the jobs that were cut before some are handed over, up to an end of a
-- batch
pub record IsWithinFirst (before after : Option (List ℕ)) (handed : Handed) : Type 0 where
  pub unread : after ≡ before
  pub some : 0 < length handed.jobs
  pub up : UpToAnEnd handed.jobs handed.batch_ends handed.first

-- what was read where a session ended so, with pieces of at most `room` bytes; a write fault ends
-- it wherever reading had paused, or while what was cut before is answered
abbrev pub ReadsFor : Option (List ℕ) → Option (List ℕ) → ℕ → Handed → RunFault → Type 0
ReadsFor before after room handed Nothing = HasReadAll before after true handed
ReadsFor before after room handed Read = HasReadAll before after false handed
ReadsFor before after room handed (LineTooLong line) =
    StopsCutting before after room (stop.LineTooLong line) handed
ReadsFor before after room handed TooManyLines =
    StopsCutting before after room stop.TooManyLines handed
ReadsFor before after room handed Write =
    ((how : Paused) × (how ≢ paused.NoMemory) × ReadsBatch before after room handed how) ⊎
    IsWithinFirst before after handed
ReadsFor before after room handed NoMemory = IsReadUp before after handed
ReadsFor before after room handed fault = ⊥

-- the text of the entries from a place on
abbrev pub text_from : PolicyShape → ℕ → List Entry → List ℕ
text_from p n entries =
    transcript_text (state_after (opening_state p) (take n entries)) (drop n entries)

-- where the last batch begins, or behind the entries that were taken up, if that is later
abbrev pub last_start : ℕ → List ℕ → ℕ
last_start restored batch_ends = max restored (batch_start batch_ends (length batch_ends - 1))

-- of the entries behind those that were taken up, those before a place are written, and of the
-- others a part
abbrev pub WritesPart : Setting → Option (List ℕ) → Option (List ℕ) → ℕ → List Entry → Type 0
WritesPart set before after n entries =
    HasPart (with_bytes before (text_from set.policy set.restored (take n entries))) after
    (text_from set.policy n entries)

-- what is written where a session ended so: after a write fault or want of memory the last batch in
-- part, else all entries that were not taken up
abbrev pub WritesFor : Setting → Option (List ℕ) → Option (List ℕ) → Told → RunFault → Type 0
WritesFor set before after told Write =
    WritesPart set before after (last_start set.restored told.batch_ends) told.entries
WritesFor set before after told NoMemory =
    WritesPart set before after (last_start set.restored told.batch_ends) told.entries
WritesFor set before after told fault =
    after ≡ with_bytes before (text_from set.policy set.restored told.entries)

-- after each of the entries every open case can be completed
abbrev pub AlwaysKeepsCompletable : PolicyShape → List Entry → Type 0
AlwaysKeepsCompletable p entries = (n : ℕ) →
    KeepsCompletable (state_after (opening_state p) (take n entries))

-- a session: what was written are the replies of one legal history, which holds each of the jobs
-- that were read once, in the order of their batches and lanes; each of them decides exactly what
-- was asked, in the state that those before it leave, and leaves every open case one that can be
-- completed; and each fault of the outside is counted
pub record Served (set : Setting) (first : Cut) (room : ℕ) (before after : Streams)
    (told : Told) (fault : RunFault) : Type 0 where
  pub reads : ReadsFor before.input after.input room (handed_in first told) fault
  pub legal : IsLegal (opening_state set.policy) set.rounds told.entries
  pub fills : FillsJobs told.entries told.jobs told.batch_ends
  pub writes : WritesFor set before.output after.output told fault
  pub exact : AreExact set.policy told.entries
  pub kept : AlwaysKeepsCompletable set.policy told.entries
  pub read_faults : CountsReads fault before.read_faults after.read_faults
  pub write_faults : CountsWrites fault before.write_faults after.write_faults
