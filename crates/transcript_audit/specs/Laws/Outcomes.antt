-- What becomes of a line of a transcript, and of its end.
use Rattle.std.specs.Prelude.{◌≡◌, ℕ, ◌<◌, List, length, Option, None, Some, Result, Ok, Err}
use Rattle.wf_talk.specs.declared.entry.Entry.{Entry}
use Rattle.wf_board.specs.Laws.States.{opening_state}
use Rattle.wf_board.specs.Laws.Histories.{FillsJobs, IsLegal}
use Rattle.transcript_audit.specs.declared.fault.AuditFault.{AuditFault}
use Rattle.transcript_audit.specs.declared.fault.AuditFault.TheVariants.{At, NoMemory}
use Rattle.transcript_audit.specs.declared.fault.AuditKind.{AuditKind}
use Rattle.transcript_audit.specs.declared.fault.AuditKind.TheVariants.{Missing}
use Rattle.transcript_audit.specs.Auditor.{AuditShape, HasFault, IsNextLine, with_entry}

-- the kind of the first fault: the one that there was before, or the one that this line has
abbrev pub IsFirstFault : Option AuditKind → AuditShape → List ℕ → AuditKind → Type 0
IsFirstFault None a line kind = HasFault a line kind
IsFirstFault (Some first) a line kind = kind ≡ first

-- what became of a line: it is the text of an entry that comes next, and the entry is taken; the
-- first fault is told, and kept; or there was no memory, and nothing is changed
abbrev pub HasTakenLine : AuditShape → AuditShape → List ℕ → Result (Unit {0}) AuditFault → Type 0
HasTakenLine before after line (Ok done) =
    (before.fault ≡ None) ×
    ((e : Entry) × (IsNextLine before line e × (after ≡ with_entry before e)))
HasTakenLine before after line (Err (At n kind)) =
    (n ≡ length before.entries) × (IsFirstFault before.fault before line kind ×
    (after ≡ record before { fault = Some kind }))
HasTakenLine before after line (Err NoMemory) = (before.fault ≡ None) × (after ≡ before)

-- the entries are a legal history that fills the jobs
pub record IsWhole (a : AuditShape) : Type 0 where
  pub legal : IsLegal (opening_state a.opening) a.rounds a.entries
  pub fills : FillsJobs a.entries a.jobs a.batch_ends

-- the kind of the fault at the end: the one that there was before, or that an entry is missing
abbrev pub IsLastFault : Option AuditKind → AuditShape → AuditKind → Type 0
IsLastFault None a kind = (kind ≡ Missing) × (length a.entries < length a.jobs)
IsLastFault (Some first) a kind = kind ≡ first

-- what the end comes to: no line had a fault and each job has its entry; or the fault that there is
abbrev pub EndsAudit : AuditShape → Result (Unit {0}) AuditFault → Type 0
EndsAudit a (Ok done) = (a.fault ≡ None) × ((length a.entries ≡ length a.jobs) × IsWhole a)
EndsAudit a (Err (At n kind)) = (n ≡ length a.entries) × IsLastFault a.fault a kind
EndsAudit a (Err NoMemory) = ⊥
