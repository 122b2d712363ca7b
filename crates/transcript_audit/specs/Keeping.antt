-- Inside: what an audit keeps beside what is said of it.
use Rattle.std.specs.Prelude.{◌≡◌, ◌≢◌, ℕ, ◌+◌, ◌<◌, ◌≤◌, ◌&&◌, Bool, true, false, nat_eq, nat_le}
use Rattle.std.specs.Prelude.{List, length, take, drop, max, slice_get, slice_index_or, slice_set}
use Rattle.std.specs.Prelude.{IfSome, Option, None, Some, Result, Ok, Err}
use Rattle.wf_names.specs.declared.limits.TheConstants.{LANE_LIMIT}
use Rattle.wf_talk.specs.declared.entry.Entry.{Entry}
use Rattle.wf_talk.specs.declared.job.Job.{Job}
use Rattle.wf_talk.specs.declared.reply.Reply.{Reply}
use Rattle.wf_talk.specs.declared.reply.Reply.TheVariants as reply
use Rattle.wf_talk.specs.declared.request.Ask.{Ask}
use Rattle.wf_talk.specs.declared.request.Ask.TheVariants as ask
use Rattle.wf_talk.specs.declared.request.Request.TheVariants as request
use Rattle.wf_board.specs.Counting.{counted, counted_end, lane_end}
use Rattle.wf_board.specs.Laws.Histories.{EachAfter, FillsJobs, IsLegal, RestsFrom, batch_start}
use Rattle.wf_board.specs.Laws.Histories.{lane_jobs}
use Rattle.wf_board.specs.Laws.States.{opening_state}
use Rattle.wf_desk.specs.Desks.{served_jobs}
use Rattle.wf_desk.specs.Docket.{IsNextPlace, entry_for}
use Rattle.line_reader.specs.Laws.{AreInOrder}
use Rattle.entry_reader.specs.declared.place.Place.{Place}
use Rattle.entry_reader.specs.declared.fault.NotText.{NotText}
use Rattle.entry_reader.specs.Laws.Lines.{HasReply}
use Rattle.transcript_audit.specs.declared.cursor.Cursor.{Cursor}
use Rattle.transcript_audit.specs.declared.fault.AuditKind.{AuditKind}
use Rattle.transcript_audit.specs.declared.fault.AuditKind.TheVariants as kinds
use Rattle.basics.specs.declared.fault.Fault.{Fault}
use Rattle.basics.specs.declared.fault.Fault.TheVariants as flaw
use Rattle.transcript_audit.specs.Auditor.{AuditShape, ComesNext, HasFault, IsDue, IsNextLine}
use Rattle.transcript_audit.specs.Auditor.{StandsAtPlace, flows_now, state_now, with_entry}

-- an audit, with the room that is left for more entries
pub record RecordShape : Type 0 where
  pub audit : AuditShape
  pub spare : ℕ

-- where a batch ends; behind the last, where it begins
abbrev pub end_of : List ℕ → ℕ → ℕ
end_of ends k = slice_index_or ends k (batch_start ends k)

-- the jobs between two places
abbrev pub part : ℕ → ℕ → List Job → List Job
part from end jobs = drop from (take end jobs)

-- the jobs of a batch
abbrev pub jobs_in : List Job → List ℕ → ℕ → List Job
jobs_in jobs ends k = part (batch_start ends k) (end_of ends k) jobs

-- the entry behind n others stands in the batch with the number k, or behind the last batch
pub record IsBatchOf (ends : List ℕ) (n k : ℕ) : Type 0 where
  pub known : k ≤ length ends
  pub begun : batch_start ends k ≤ n
  pub before : k < length ends → n < slice_index_or ends k 0
  pub behind : k ≡ length ends → n ≡ batch_start ends k

-- the entries are a legal history; the batches before the one with the number k are filled; each
-- lane's entries of that one answer its first jobs, in order, and what is answered again rests on
-- entries of the batch
pub record IsSoundAudit (a : AuditShape) (k : ℕ) : Type 0 where
  pub order : AreInOrder LANE_LIMIT a.jobs a.batch_ends
  pub legal : IsLegal (opening_state a.opening) a.rounds a.entries
  pub here : IsBatchOf a.batch_ends (length a.entries) k
  pub front : (lane : ℕ) → let done = served_jobs (batch_start a.batch_ends k) a.entries lane in
      done ≡ take (length done) (lane_jobs lane (jobs_in a.jobs a.batch_ends k))
  pub rests : let start = batch_start a.batch_ends k in
      EachAfter (RestsFrom start) (take start a.entries) (drop start a.entries)
  pub filled : let start = batch_start a.batch_ends k in
      FillsJobs (take start a.entries) (take start a.jobs) (take k a.batch_ends)

-- a lane goes on at a place among the jobs of a batch
pub record IsPlaceIn (jobs : List Job) (start : ℕ) (entries : List Entry) (lane place : ℕ) :
    Type 0 where
  pub within : place ≤ length jobs
  pub before : served_jobs start entries lane ≡ lane_jobs lane (take place jobs)
  pub here : IfSome (slice_get jobs place) (λ j. j.lane ≡ lane)

-- an audit is sound, and the cursor stands at the next job of each lane
pub record IsRecord (a : AuditShape) (c : Cursor) : Type 0 where
  pub sound : IsSoundAudit a c.batch
  pub start : c.start ≡ batch_start a.batch_ends c.batch
  pub ends : c.end ≡ end_of a.batch_ends c.batch
  pub placed : (lane : ℕ) → lane < LANE_LIMIT →
      IsPlaceIn (jobs_in a.jobs a.batch_ends c.batch) c.start a.entries lane
      (slice_index_or c.places lane 0)

-- a cursor stands at the first job of each lane in a batch
pub record IsAtFirst (jobs : List Job) (ends : List ℕ) (k start : ℕ) (c : Cursor) : Type 0 where
  pub batch : c.batch ≡ k
  pub begins : c.start ≡ start
  pub stops : c.end ≡ slice_index_or ends k start
  pub placed : (lane : ℕ) → lane < LANE_LIMIT →
      IsNextPlace (part start (slice_index_or ends k start) jobs) lane 0
      (slice_index_or c.places lane 0)

-- a cursor went on to the next job of a lane
pub record HasMoved (jobs : List Job) (lane : ℕ) (before after : Cursor) : Type 0 where
  pub place : ℕ
  pub sized : lane < length before.places
  pub kept : after ≡ record before { places = slice_set before.places lane place }
  pub moved : IsNextPlace (part before.start before.end jobs) lane
      (slice_index_or before.places lane 0 + 1) place

-- a cursor went on after an entry of a lane, with n entries there: to the lane's next job, or to
-- the next batch
pub record HasMovedOn (jobs : List Job) (ends : List ℕ) (lane n : ℕ) (before after : Cursor) :
    Type 0 where
  pub within : n ≢ before.end → HasMoved jobs lane before after
  pub past : n ≡ before.end → IsAtFirst jobs ends (before.batch + 1) before.end after

-- a count of entries rests on those of the batch, and the place is that of the last that counts
abbrev pub rests_on : List Entry → ℕ → ℕ → Ask → ℕ → ℕ → Bool
rests_on entries start lane what n place =
    nat_le n (counted what (drop (max (lane_end lane entries) start) entries)) &&
    nat_eq (place + 1) (counted_end what entries)

-- an edit of the policy, or a view over the open cases
abbrev pub asks_of_all : Ask → Bool
asks_of_all (ask.Request (request.Change by edit)) = true
asks_of_all (ask.Request (request.Worklist user)) = true
asks_of_all (ask.Request (request.WhatIf by edit)) = true
asks_of_all what = false

-- the rounds and the place of a reply that is `again`
abbrev pub again_in : Reply → Option (ℕ × ℕ)
again_in (reply.Again n place) = Some (n, place)
again_in given = None

-- what is wrong where a text was not read
abbrev pub flaw_of_text : Fault NotText → Fault AuditKind
flaw_of_text (flaw.Cause _) = flaw.Cause kinds.Text
flaw_of_text flaw.NoMemory = flaw.NoMemory

-- the job at a place, if it is its lane's next one
abbrev pub IsDueIf : AuditShape → Place → Option Job → Type 0
IsDueIf a place None = (j : Job) → ¬ IsDue a place j
IsDueIf a place (Some j) = IsDue a place j

-- a line tells the reply to a job that is due
pub record TellsReply (a : AuditShape) (line : List ℕ) (j : Job) (r : Reply) : Type 0 where
  pub place : Place
  pub stands : StandsAtPlace a line place
  pub due : IsDue a place j
  pub reply : HasReply (state_now a).book.policy (flows_now a) j.ask line r

-- what came of reading a line
abbrev pub ReadsLineTo : AuditShape → List ℕ → Result (Job × Reply) (Fault AuditKind) → Type 0
ReadsLineTo a line (Ok found) = TellsReply a line found.0 found.1
ReadsLineTo a line (Err (flaw.Cause kind)) = HasFault a line kind
ReadsLineTo a line (Err flaw.NoMemory) = Unit {0}

-- the entry of a job that comes next
abbrev pub entry_next : AuditShape → Job → Reply → Entry
entry_next a j r = entry_for j (length a.entries) r

-- what came of entering a reply
abbrev pub HasEntered : AuditShape → AuditShape → Job → Reply →
    Result (Unit {0}) (Fault AuditKind) → Type 0
HasEntered before after j r (Ok done) = ComesNext before (entry_next before j r) ×
    (after ≡ with_entry before (entry_next before j r))
HasEntered before after j r (Err (flaw.Cause kind)) = (kind ≡ kinds.Reply) ×
    (¬ ComesNext before (entry_next before j r) × (after ≡ before))
HasEntered before after j r (Err flaw.NoMemory) = after ≡ before

-- what came of a line, where there was no fault before
abbrev pub TriesLine : AuditShape → AuditShape → List ℕ →
    Result (Unit {0}) (Fault AuditKind) → Type 0
TriesLine before after line (Ok done) = (e : Entry) ×
    (IsNextLine before line e × (after ≡ with_entry before e))
TriesLine before after line (Err (flaw.Cause kind)) = HasFault before line kind × (after ≡ before)
TriesLine before after line (Err flaw.NoMemory) = after ≡ before
