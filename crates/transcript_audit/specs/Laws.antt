-- What an audit finds, and what a transcript is.
pub mod Outcomes
use Rattle.std.specs.Prelude.{◌≡◌, ◌↔◌, ◌<◌, ◌^◌, ℕ, List, length}
use Rattle.wf_names.specs.declared.limits.TheConstants.{LANE_LIMIT}
use Rattle.policy_book.specs.Laws.Shapes.{PolicyShape}
use Rattle.policy_book.specs.Laws.Facts.{IsSoundPolicy}
use Rattle.wf_talk.specs.declared.entry.Entry.{Entry}
use Rattle.wf_talk.specs.declared.job.Job.{Job}
use Rattle.line_reader.specs.Laws.{AreInOrder, AreNamedJobs}
use Rattle.entry_reader.specs.Named.{HasNames}
use Rattle.entry_laws.specs.Laws.{HasFewSteps}
use Rattle.transcript_audit.specs.declared.fault.AuditKind.{AuditKind}
use Rattle.transcript_audit.specs.Auditor.{AreNext, HasFault, IsNextLine, IsTranscript}
use Rattle.transcript_audit.specs.Auditor.{IsTranscriptPart, audit_of}

-- a policy, jobs and rounds as those of a session are
pub record AreOfSession (p : PolicyShape) (rounds : ℕ) (jobs : List Job) (batch_ends : List ℕ) :
    Type 0 where
  pub policy : IsSoundPolicy p
  pub steps : HasFewSteps p
  pub few_rounds : rounds < 2 ^ 8
  pub order : AreInOrder LANE_LIMIT jobs batch_ends
  pub named : AreNamedJobs jobs
  pub names : HasNames p

-- a line that has a fault is the text of no entry that comes next, where all lines before it are
-- such texts
abbrev pub FaultsExclude : Type 0
FaultsExclude =
    (p : PolicyShape) (rounds : ℕ) (jobs : List Job) (batch_ends : List ℕ)
    (lines : List (List ℕ)) (es : List Entry) →
    AreOfSession p rounds jobs batch_ends → AreNext (audit_of p rounds jobs batch_ends) lines es →
    (line : List ℕ) (kind : AuditKind) (e : Entry) →
    HasFault (record (audit_of p rounds jobs batch_ends) { entries = es }) line kind →
    ¬ IsNextLine (record (audit_of p rounds jobs batch_ends) { entries = es }) line e

-- a line is the text of one entry at most that comes next, where all lines before it are such texts
abbrev pub NextIsOne : Type 0
NextIsOne =
    (p : PolicyShape) (rounds : ℕ) (jobs : List Job) (batch_ends : List ℕ)
    (lines : List (List ℕ)) (es : List Entry) →
    AreOfSession p rounds jobs batch_ends → AreNext (audit_of p rounds jobs batch_ends) lines es →
    (line : List ℕ) (e other : Entry) →
    IsNextLine (record (audit_of p rounds jobs batch_ends) { entries = es }) line e →
    IsNextLine (record (audit_of p rounds jobs batch_ends) { entries = es }) line other → e ≡ other

-- all lines are the texts of entries that come next, one for each job, exactly where they are those
-- of a legal history that fills the jobs
abbrev pub AuditIsExact : Type 0
AuditIsExact =
    (p : PolicyShape) (rounds : ℕ) (jobs : List Job) (batch_ends : List ℕ) (lines : List (List ℕ)) →
    AreInOrder LANE_LIMIT jobs batch_ends →
    ((es : List Entry) ×
    (AreNext (audit_of p rounds jobs batch_ends) lines es × (length es ≡ length jobs)))
    ↔ IsTranscript p rounds jobs batch_ends lines

-- lines are the texts of entries of which each comes next exactly where they are those of these
-- entries, and these are a legal history that answers a part of the jobs
abbrev pub PartIsExact : Type 0
PartIsExact =
    (p : PolicyShape) (rounds : ℕ) (jobs : List Job) (batch_ends : List ℕ)
    (lines : List (List ℕ)) (es : List Entry) →
    AreInOrder LANE_LIMIT jobs batch_ends →
    AreNext (audit_of p rounds jobs batch_ends) lines es ↔
    IsTranscriptPart p rounds jobs batch_ends lines es
