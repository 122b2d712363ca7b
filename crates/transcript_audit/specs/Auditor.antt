-- The audit of a transcript: line after line is the text of the entry that comes next, or has a
-- first fault.
use Rattle.std.specs.Prelude.{◌≡◌, ◌≢◌, ℕ, ◌-◌, nat_le, nat_eq, List, [], ◌∷◌, ◌++◌, length, take}
use Rattle.std.specs.Prelude.{drop, map, slice_get, slice_index_or, Option, None, Some, option_map}
use Rattle.std.specs.Prelude.{if◌then◌else◌}
use Rattle.std.proofs.Common.{◌⊎◌}
use Rattle.policy_book.specs.Laws.Shapes.{PolicyShape}
use Rattle.wf_talk.specs.declared.entry.Entry.{Entry}
use Rattle.wf_talk.specs.declared.job.Job.{Job}
use Rattle.wf_talk.specs.declared.reply.Reply.{Reply}
use Rattle.wf_board.specs.Laws.States.{State, numbered_case, opening_state}
use Rattle.wf_board.specs.Laws.Histories.{FillsJobs, IsLegal, IsRightAfter, RestsFrom, job_of_entry}
use Rattle.wf_board.specs.Laws.Histories.{lane_jobs, state_after}
use Rattle.wf_desk.specs.Laws.Parts.{FillsPart}
use Rattle.wire_json.specs.Replies.{entry_text}
use Rattle.entry_reader.specs.declared.place.Place.{Place}
use Rattle.entry_reader.specs.Places.{place_of_line}
use Rattle.entry_reader.specs.Laws.Lines.{HasNoReply, HasReply, entry_at}
use Rattle.entry_laws.specs.Laws.Transcripts.{texts_of}
use Rattle.transcript_audit.specs.declared.fault.AuditKind.{AuditKind}
use Rattle.transcript_audit.specs.declared.fault.AuditKind.TheVariants.{Text, At, Job as WrongJob}
use Rattle.transcript_audit.specs.declared.fault.AuditKind.TheVariants.{Reply as WrongReply}
use Rattle.transcript_audit.specs.declared.fault.AuditKind.TheVariants.{Missing}

-- an audit: the policy at the beginning, after how many rounds a request may be answered again, the
-- jobs with the ends of their batches, the entries so far, and the kind of the first fault, if
-- there was one
pub record AuditShape : Type 0 where
  pub opening : PolicyShape
  pub rounds : ℕ
  pub jobs : List Job
  pub batch_ends : List ℕ
  pub entries : List Entry
  pub fault : Option AuditKind

-- before the first line
abbrev pub audit_of : PolicyShape → ℕ → List Job → List ℕ → AuditShape
audit_of p rounds jobs batch_ends =
    record {
      opening = p;
      rounds = rounds;
      jobs = jobs;
      batch_ends = batch_ends;
      entries =
          [];
      fault = None;
    }

-- the state after the entries so far
abbrev pub state_now : AuditShape → State
state_now a = state_after (opening_state a.opening) a.entries

-- which workflow each case is of
abbrev pub flows_now : AuditShape → ℕ → Option ℕ
flows_now a n = option_map (λ c. c.flow) (numbered_case (state_now a).book.cases n)

-- where the batch begins in which a place stands: at the last end that is not behind it
abbrev pub start_at : ℕ → ℕ → List ℕ → ℕ
start_at from place [] = from
start_at from place (end ∷ ends) = if nat_le end place then start_at end place ends else from

-- where it ends: at the first end behind the place, or at the place where there is none
abbrev pub end_at : ℕ → List ℕ → ℕ
end_at place [] = place
end_at place (end ∷ ends) = if nat_le end place then end_at place ends else end

-- the present batch: the one in which the next entry stands
abbrev pub present_start : AuditShape → ℕ
present_start a = start_at 0 (length a.entries) a.batch_ends

abbrev pub present_jobs : AuditShape → List Job
present_jobs a = drop (present_start a) (take (end_at (length a.entries) a.batch_ends) a.jobs)

-- a lane's next job of the present batch, if it has one left
abbrev pub next_job : AuditShape → ℕ → Option Job
next_job a lane =
    slice_get (lane_jobs lane (present_jobs a))
    (length (lane_jobs lane (map job_of_entry (drop (present_start a) a.entries))))

-- an entry comes next: it answers its lane's next job, it is a step or answered again as it may be,
-- and what is answered again rests on entries of its batch
pub record ComesNext (a : AuditShape) (e : Entry) : Type 0 where
  pub answers : next_job a e.lane ≡ Some (job_of_entry e)
  pub right : IsRightAfter (opening_state a.opening) a.rounds a.entries e
  pub rests : RestsFrom (present_start a) a.entries e

-- the text of an entry that comes next, with the names of the policy after it
abbrev pub next_text : AuditShape → Entry → List ℕ
next_text a e =
    entry_text (state_after (opening_state a.opening) (a.entries ++ e ∷ [])).book.policy e

-- a line is the text of an entry that comes next
pub record IsNextLine (a : AuditShape) (line : List ℕ) (e : Entry) : Type 0 where
  pub next : ComesNext a e
  pub written : line ≡ next_text a e

-- with one more entry
abbrev pub with_entry : AuditShape → Entry → AuditShape
with_entry a e = record a { entries = a.entries ++ e ∷ [] }

-- the place that a line tells, where it ends with LF
abbrev pub place_told : List ℕ → Option Place
place_told line =
    if nat_eq (slice_index_or line (length line - 1) 0) 10 then place_of_line line else None

-- a line tells this place, and stands there
pub record StandsAtPlace (a : AuditShape) (line : List ℕ) (place : Place) : Type 0 where
  pub told : place_told line ≡ Some place
  pub here : place.at ≡ length a.entries

-- the job at a place: its lane's next one
pub record IsDue (a : AuditShape) (place : Place) (j : Job) : Type 0 where
  pub next : next_job a place.lane ≡ Some j
  pub line : j.line ≡ place.line

-- what is wrong with a line
abbrev pub HasFault : AuditShape → List ℕ → AuditKind → Type 0
HasFault a line Text =
    (place_told line ≡ None)
    ⊎ ((place : Place) × ((j : Job) × (StandsAtPlace a line place
    × (IsDue a place j × HasNoReply (state_now a).book.policy (flows_now a) j.ask line))))
HasFault a line At = (place : Place) ×
    ((place_told line ≡ Some place) × (place.at ≢ length a.entries))
HasFault a line WrongJob = (place : Place) ×
    (StandsAtPlace a line place × ((j : Job) → ¬ IsDue a place j))
HasFault a line WrongReply =
    (place : Place) × ((j : Job) × ((r : Reply) × (StandsAtPlace a line place
    × (IsDue a place j × (HasReply (state_now a).book.policy (flows_now a) j.ask line r ×
    ¬ ComesNext a (entry_at place j.ask r))))))
HasFault a line Missing = ⊥

-- the lines are the texts of entries of which each comes next
abbrev pub AreNext : AuditShape → List (List ℕ) → List Entry → Type 0
AreNext a [] [] = Unit {0}
AreNext a (line ∷ lines) (e ∷ es) = IsNextLine a line e × AreNext (with_entry a e) lines es
AreNext a lines es = ⊥

-- the lines are those of a legal history that fills the jobs
pub record IsTranscript (p : PolicyShape) (rounds : ℕ) (jobs : List Job) (batch_ends : List ℕ)
    (lines : List (List ℕ)) : Type 0 where
  pub entries : List Entry
  pub legal : IsLegal (opening_state p) rounds entries
  pub fills : FillsJobs entries jobs batch_ends
  pub written : lines ≡ texts_of (opening_state p) entries

-- the lines are those of these entries, a legal history that answers a part of the jobs
pub record IsTranscriptPart (p : PolicyShape) (rounds : ℕ) (jobs : List Job)
    (batch_ends : List ℕ) (lines : List (List ℕ)) (entries : List Entry) : Type 0 where
  pub legal : IsLegal (opening_state p) rounds entries
  pub part : FillsPart entries jobs batch_ends
  pub written : lines ≡ texts_of (opening_state p) entries
