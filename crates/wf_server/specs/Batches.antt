-- Inside: where a session stands between its batches.
use Rattle.std.specs.Prelude.{◌≡◌, ℕ, Bool, ◌+◌, ◌≤◌, max, List, ◌++◌, length, take}
use Rattle.std.specs.Prelude.{Option, None, Some, Result, Ok, Err}
use Rattle.std.specs.List.{flat_map}
use Rattle.std.proofs.Common.{◌⊎◌}
use Rattle.wf_names.specs.declared.limits.TheConstants.{BATCH_LINE_LIMIT, SESSION_LINE_LIMIT}
use Rattle.wf_outside.specs.Laws.Outside.{with_bytes}
use Rattle.wf_talk.specs.declared.entry.Entry.{Entry}
use Rattle.wf_talk.specs.declared.job.Job.{Job}
use Rattle.line_reader.specs.Cutter.{ends_after}
use Rattle.line_reader.specs.Jobs.{Cut, jobs_from}
use Rattle.line_reader.specs.Laws.{AreInOrder}
use Rattle.line_reader.specs.declared.stop.Stop.TheVariants as stop
use Rattle.line_reader.specs.declared.batch_reader.Paused.{Paused}
use Rattle.line_reader.specs.declared.batch_reader.Paused.TheVariants as paused
use Rattle.line_reader.specs.BatchReader.{BatchReaderShape, HasRead}
use Rattle.wire_json.specs.Replies.{entry_text}
use Rattle.policy_book.specs.Laws.Shapes.{PolicyShape}
use Rattle.wf_board.specs.Laws.Histories.{FillsJobs}
use Rattle.wf_desk.specs.BatchLaws.{EndAt}
use Rattle.wf_desk.specs.Desks.{AreOfLanes, DeskShape, IsDone, jobs_told}
use Rattle.run_record.specs.declared.fault.RunFault.{RunFault}
use Rattle.run_record.specs.declared.fault.RunFault.TheVariants.{Nothing, Read, Write, NoMemory}
use Rattle.run_record.specs.declared.fault.RunFault.TheVariants.{LineTooLong, TooManyLines}
use Rattle.run_record.specs.Fault.{CountsReads, CountsWrites}
use Rattle.run_record.specs.Report.{Told}
use Rattle.run_record.specs.Laws.Run.{Streams}
use Rattle.wf_server.specs.declared.batch.Answered.{Answered}
use Rattle.wf_server.specs.Sessions.{Setting, handed_in, last_start, text_from, ReadsFor, WritesFor}
use Rattle.wf_server.specs.Sessions.{WritesPart}
use Rattle.wf_server.specs.Ways.{setting_of}

-- the texts of entries, in order, with the names of one policy
abbrev pub entries_text : PolicyShape → List Entry → List ℕ
entries_text p entries = flat_map (entry_text p) entries

-- a session, but that its history is legal and keeps each open case completable
pub record Serves (set : Setting) (first : Cut) (room : ℕ) (before after : Streams)
    (told : Told) (fault : RunFault) : Type 0 where
  pub reads : ReadsFor before.input after.input room (handed_in first told) fault
  pub fills : FillsJobs told.entries told.jobs told.batch_ends
  pub writes : WritesFor set before.output after.output told fault
  pub read_faults : CountsReads fault before.read_faults after.read_faults
  pub write_faults : CountsWrites fault before.write_faults after.write_faults

-- what a session at a desk tells
abbrev pub told_of : DeskShape → Answered → Told
told_of d a = record { entries = d.entries; jobs = jobs_told d; batch_ends = a.batch_ends }

-- a batch behind `before` jobs: with them it is within the limit of a session, it is short, and
-- each of its jobs is of one of the lanes
pub record IsBatch (lanes before : ℕ) (batch : List Job) : Type 0 where
  pub few : before + length batch ≤ SESSION_LINE_LIMIT
  pub short : length batch ≤ BATCH_LINE_LIMIT
  pub of_lanes : AreOfLanes lanes batch

-- the jobs so far are answered, and the entries written
pub record HasAnsweredAll (held held-after : Option (List ℕ)) (d : DeskShape) (told : Told) :
    Type 0 where
  pub done : IsDone d
  pub fills : FillsJobs told.entries told.jobs told.batch_ends
  pub ends : EndAt told.batch_ends (length told.jobs)
  pub kept : d.restored ≤ length told.entries
  pub written : held-after ≡ with_bytes held (text_from d.opening d.restored told.entries)

-- the jobs so far are answered, and the entries of the last batch written in part
pub record HasAnsweredPart (set : Setting) (held held-after : Option (List ℕ)) (told : Told) :
    Type 0 where
  pub fills : FillsJobs told.entries told.jobs told.batch_ends
  pub written : WritesPart set held held-after (last_start set.restored told.batch_ends)
      told.entries

-- the jobs of one more batch are told, with its end
pub record IsBatchAdded (before : Told) (batch : List Job) (after : Told) : Type 0 where
  pub jobs : after.jobs ≡ before.jobs ++ batch
  pub ends : after.batch_ends ≡ ends_after before.batch_ends (length before.jobs) batch

-- a batch is at a desk behind those that are told: their jobs are answered; of the entries of the
-- batch those alone are there that were taken up; and what was not taken up is written
pub record HasLoaded (held held-after : Option (List ℕ)) (d : DeskShape) (told : Told) :
    Type 0 where
  pub fills : FillsJobs told.entries told.jobs told.batch_ends
  pub ends : EndAt told.batch_ends (length told.jobs)
  pub front : take d.start d.entries ≡ told.entries
  pub here : length d.entries ≡ max d.restored d.start
  pub written : held-after ≡ with_bytes held (text_from d.opening d.restored d.entries)

-- what came of answering the jobs at a desk, where all told jobs are answered then
abbrev pub LoadedTo : Option (List ℕ) → Option (List ℕ) → DeskShape → Told →
    Result (Unit {0}) RunFault → Type 0
LoadedTo held held-after d after (Ok done) = HasAnsweredAll held held-after d after
LoadedTo held held-after d after (Err fault) = HasAnsweredPart (setting_of d) held held-after after

-- what came of answering a batch
abbrev pub AnswersTo : Option (List ℕ) → Option (List ℕ) → Told → List Job → DeskShape → Told →
    Result (Unit {0}) RunFault → Type 0
AnswersTo held held-after before batch d after (Ok done) = IsBatchAdded before batch after ×
    HasAnsweredAll held held-after d after
AnswersTo held held-after before batch d after (Err NoMemory) =
    ((after ≡ before) ⊎ IsBatchAdded before batch after) ×
    HasAnsweredPart (setting_of d) held held-after after
AnswersTo held held-after before batch d after (Err fault) =
    IsBatchAdded before batch after × HasAnsweredPart (setting_of d) held held-after after

-- the endings of answering a batch
abbrev pub IsWriteEnding : RunFault → Type 0
IsWriteEnding Write = Unit {0}
IsWriteEnding NoMemory = Unit {0}
IsWriteEnding fault = ⊥

-- how a session ends where reading paused so and all is answered, if it does
abbrev pub ending_after : Paused → Option RunFault
ending_after paused.Batch = None
ending_after paused.End = Some Nothing
ending_after paused.Failed = Some Read
ending_after (paused.Stopped (stop.LineTooLong line)) = Some (LineTooLong line)
ending_after (paused.Stopped stop.TooManyLines) = Some TooManyLines
ending_after paused.NoMemory = Some NoMemory

-- whatever is read behind what was cut before, all jobs are in order
abbrev pub AreInOrderFrom : ℕ → Cut → Type 0
AreInOrderFrom lanes first =
    (bytes : List ℕ) (ended : Bool) →
    AreInOrder lanes (jobs_from first bytes ended).jobs (jobs_from first bytes ended).ends

-- between two batches: all that was handed over is answered and written, and no call has failed
pub record IsServing (first : Cut) (before after : Streams) (r : BatchReaderShape) (d : DeskShape)
    (told : Told) : Type 0 where
  pub order : AreInOrderFrom d.lanes first
  pub read : HasRead before.input after.input (handed_in first told) r
  pub answered : HasAnsweredAll before.output after.output d told
  pub read_faults : after.read_faults ≡ before.read_faults
  pub write_faults : after.write_faults ≡ before.write_faults

-- after a batch the session goes on, or ends
abbrev pub BatchEnds : Cut → Streams → Streams → BatchReaderShape → DeskShape → Told →
    Option RunFault → Type 0
BatchEnds first before after r d told None = IsServing first before after r d told
BatchEnds first before after r d told (Some fault) =
    Serves (setting_of d) first r.room before after told fault
