-- Going on from a transcript: its whole lines, the entries that they tell, and the first line that
-- tells none.
use Rattle.std.specs.Prelude.{◌≡◌, ℕ, ◌+◌, nat_lt, List, [], ◌∷◌, length, take, Option, None, Some}
use Rattle.std.specs.Prelude.{if◌then◌else◌}
use Rattle.std.proofs.Common.{◌⊎◌}
use Rattle.wf_names.specs.declared.limits.TheConstants.{TRANSCRIPT_LINE_LIMIT}
use Rattle.policy_book.specs.Laws.Shapes.{PolicyShape}
use Rattle.wf_talk.specs.declared.entry.Entry.{Entry}
use Rattle.wf_talk.specs.declared.job.Job.{Job}
use Rattle.line_reader.specs.Reader.{has_end, line_length, lines_of}
use Rattle.wf_desk.specs.Desks.{DeskShape}
use Rattle.transcript_audit.specs.declared.fault.AuditFault.{AuditFault}
use Rattle.transcript_audit.specs.declared.fault.AuditFault.TheVariants.{At, NoMemory}
use Rattle.transcript_audit.specs.declared.fault.AuditKind.{AuditKind}
use Rattle.transcript_audit.specs.Auditor.{AuditShape, HasFault, IsNextLine}
use Rattle.transcript_audit.specs.Auditor.{IsTranscriptPart, audit_of, with_entry}
use Rattle.transcript_commands.specs.Unserved.{end_at, jobs_between, start_at}

-- a session: the policy at its beginning, how many lanes there are, after how many lost rounds a
-- request is answered again, and the jobs of its requests with the ends of their batches
pub record Session : Type 0 where
  pub policy : PolicyShape
  pub lanes : ℕ
  pub rounds : ℕ
  pub jobs : List Job
  pub batch_ends : List ℕ

-- a text up to its last LF and with it: what follows is a line that was torn
abbrev pub whole_lines : List ℕ → List ℕ
whole_lines [] = []
whole_lines (b ∷ bs) = if has_end (b ∷ bs) then b ∷ whole_lines bs else []

-- the first of these lines, counted from a number on, that is longer than a line may be
abbrev pub first_long : ℕ → List (List ℕ) → Option ℕ
first_long n [] = None
first_long n (line ∷ lines) =
    if nat_lt TRANSCRIPT_LINE_LIMIT (line_length line) then Some n else first_long (n + 1) lines

-- the whole lines of a transcript are those of these entries, and these are a legal history that
-- answers a part of the jobs
abbrev pub IsTakenUp : Session → List ℕ → List Entry → Type 0
IsTakenUp s transcript entries = IsTranscriptPart s.policy s.rounds s.jobs s.batch_ends
    (lines_of (whole_lines transcript)) entries

-- the first of these lines that is not the text of an entry that comes next has this number and
-- this fault
abbrev pub FailsAt : AuditShape → List (List ℕ) → ℕ → AuditKind → Type 0
FailsAt a [] n kind = ⊥
FailsAt a (line ∷ lines) n kind =
    ((n ≡ length a.entries) × HasFault a line kind) ⊎
    ((e : Entry) × (IsNextLine a line e × FailsAt (with_entry a e) lines n kind))

-- no entries are those of the transcript, since one of its whole lines is the first that is none
pub record IsRefused (s : Session) (transcript : List ℕ) (n : ℕ) (kind : AuditKind) : Type 0 where
  pub fails : FailsAt (audit_of s.policy s.rounds s.jobs s.batch_ends)
      (lines_of (whole_lines transcript)) n kind
  pub none : (entries : List Entry) → ¬ IsTakenUp s transcript entries

-- why a session does not go on from a transcript: a line of it, or want of memory
abbrev pub RefusesBy : Session → List ℕ → AuditFault → Type 0
RefusesBy s transcript (At n kind) = IsRefused s transcript n kind
RefusesBy s transcript NoMemory = Unit {0}

-- a desk goes on behind these entries: it has the jobs of the batch in which they stop, up to its
-- end, behind those of the batches before
pub record GoesOnAt (s : Session) (es : List Entry) (stop : ℕ) (d : DeskShape) : Type 0 where
  pub opening : d.opening ≡ s.policy
  pub lanes : d.lanes ≡ s.lanes
  pub rounds : d.rounds ≡ s.rounds
  pub entries : d.entries ≡ es
  pub restored : d.restored ≡ length es
  pub start : d.start ≡ start_at 0 (length es) s.batch_ends
  pub next : stop ≡ end_at (length es) s.batch_ends
  pub earlier : d.earlier ≡ take d.start s.jobs
  pub jobs : d.jobs ≡ jobs_between d.start stop s.jobs

-- a session goes on from a transcript at a desk
pub record HasResumed (s : Session) (transcript : List ℕ) (next : ℕ) (d : DeskShape) : Type 0 where
  pub taken : IsTakenUp s transcript d.entries
  pub goes_on : GoesOnAt s d.entries next d
