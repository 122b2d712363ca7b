-- A session that goes on behind the entries of an earlier one.
use Rattle.std.specs.Prelude.{◌≡◌, ℕ, suc, ◌≤◌, nat_le, List, [], ◌∷◌, ◌++◌, length, take, Result}
use Rattle.std.specs.Prelude.{Ok, Err, if◌then◌else◌}
use Rattle.policy_book.specs.Laws.Shapes.{PolicyShape}
use Rattle.policy_book.specs.Laws.Facts.{IsSoundPolicy}
use Rattle.wf_talk.specs.declared.entry.Entry.{Entry}
use Rattle.wf_talk.specs.declared.job.Job.{Job}
use Rattle.wf_board.specs.Laws.Histories.{FillsJobs, batch_start}
use Rattle.wf_desk.specs.BatchLaws.{EndAt}
use Rattle.wf_desk.specs.Desks.{AreOfLanes, jobs_told}
use Rattle.line_reader.specs.Cutter.{ends_after}
use Rattle.line_reader.specs.Jobs.{Cut, next_input, start_from}
use Rattle.line_reader.specs.Laws.{AreInOrder, GoesOn}
use Rattle.run_record.specs.declared.fault.RunFault.{RunFault}
use Rattle.run_record.specs.declared.fault.RunFault.TheVariants.{Nothing, NoMemory}
use Rattle.run_record.specs.Fault.{How, unasked, answered, refused, unread, unwritten, lacking}
use Rattle.transcript_commands.specs.Resumed.{IsRefused, IsTakenUp, Session}
use Rattle.transcript_commands.specs.declared.start.Beginning.{Beginning}
use Rattle.transcript_commands.specs.declared.start.TheConstants.{PIECE}
use Rattle.transcript_commands.specs.declared.refusal.Refusal.{Refusal}
use Rattle.transcript_commands.specs.declared.refusal.Refusal.TheVariants.{Ends, Line}

-- the session of a policy and requests as they are cut
abbrev pub session_of : PolicyShape → ℕ → ℕ → Cut → Session
session_of p lanes rounds cut =
    record { policy = p; lanes = lanes; rounds = rounds; jobs = cut.jobs; batch_ends = cut.ends }

-- how many of these ends, from the first on, are not behind a place
abbrev pub ends_to : ℕ → List ℕ → ℕ
ends_to place [] = 0
ends_to place (end ∷ ends) = if nat_le end place then suc (ends_to place ends) else 0

-- entries stop in a batch, of which those from a place on are: the jobs of the batches before it
-- are answered, and with its own they are all these
pub record StandsAt (entries : List Entry) (start : ℕ) (batch jobs : List Job)
    (batch_ends : List ℕ) : Type 0 where
  pub earlier_jobs : List Job
  pub earlier_ends : List ℕ
  pub begun : start ≤ length entries
  pub fills : FillsJobs (take start entries) earlier_jobs earlier_ends
  pub at_end : EndAt earlier_ends (length earlier_jobs)
  pub all_jobs : jobs ≡ earlier_jobs ++ batch
  pub all_ends : batch_ends ≡ ends_after earlier_ends (length earlier_jobs) batch

-- a desk goes on behind the entries of a transcript: these alone are at it, and the batch in which
-- they stop; the jobs up to its end are told; and the input is read on behind the requests
pub record HasBegun (s : Session) (cut : Cut) (transcript : List ℕ) (b : Beginning) : Type 0 where
  pub policy : IsSoundPolicy s.policy
  pub order : AreInOrder s.lanes s.jobs s.batch_ends
  pub cut_jobs : s.jobs ≡ cut.jobs
  pub cut_ends : s.batch_ends ≡ cut.ends
  pub taken : IsTakenUp s transcript b.desk.entries
  pub opening : b.desk.opening ≡ s.policy
  pub lanes : b.desk.lanes ≡ s.lanes
  pub rounds : b.desk.rounds ≡ s.rounds
  pub restored : b.desk.restored ≡ length b.desk.entries
  pub of_lanes : AreOfLanes s.lanes b.desk.jobs
  pub stands : StandsAt b.desk.entries b.desk.start b.desk.jobs (jobs_told b.desk) b.ends
  pub file_jobs : b.file.jobs ≡ s.jobs
  pub file_ends : b.file.ends ≡ s.batch_ends
  pub known : b.count ≤ length s.batch_ends
  pub first_jobs : jobs_told b.desk ≡ take (batch_start s.batch_ends b.count) s.jobs
  pub first_ends : b.ends ≡ take b.count s.batch_ends
  pub goes_on : GoesOn s.lanes cut
  pub reader : b.reader ≡ record {
    cut = start_from s.lanes (next_input cut).number;
    pending =
        [];
    room = PIECE;
  }

-- what becomes of a transcript of which no line is too long: a session goes on behind its entries,
-- or it has a first line that is none of such a session, or there is no memory
abbrev pub BeginsBy : Session → Cut → List ℕ → Result Beginning Refusal → Type 0
BeginsBy s cut transcript (Ok b) = HasBegun s cut transcript b
BeginsBy s cut transcript (Err (Line n kind)) = IsRefused s transcript n kind
BeginsBy s cut transcript (Err (Ends fault)) = fault ≡ NoMemory

-- it stops before so
abbrev pub StopsBy : Result Beginning Refusal → RunFault → Type 0
StopsBy result fault = result ≡ Err (Ends fault)

-- the fault that it ends with, if it does
abbrev pub fault_by : Result Beginning Refusal → RunFault
fault_by (Ok b) = Nothing
fault_by (Err (Line n kind)) = Nothing
fault_by (Err (Ends fault)) = fault

-- how it ends before the session: no read and no write failed
abbrev pub EndsBeginning : How → Type 0
EndsBeginning unasked = ⊥
EndsBeginning unread = ⊥
EndsBeginning unwritten = ⊥
EndsBeginning how = Unit {0}

-- Inside: how it ends once its files are loaded
abbrev pub EndsLoaded : How → Type 0
EndsLoaded answered = Unit {0}
EndsLoaded refused = Unit {0}
EndsLoaded lacking = Unit {0}
EndsLoaded how = ⊥
