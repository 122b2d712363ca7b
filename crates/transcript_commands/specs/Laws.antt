-- What `legal` means: the lines are the texts of entries that come next, one for each job.
pub mod Begun
use Rattle.std.specs.Prelude.{◌≡◌, ◌↔◌, ℕ, List, length}
use Rattle.policy_book.specs.Laws.Shapes.{PolicyShape}
use Rattle.wf_talk.specs.declared.entry.Entry.{Entry}
use Rattle.wf_talk.specs.declared.job.Job.{Job}
use Rattle.transcript_audit.specs.Auditor.{AreNext, IsTranscript, audit_of}
use Rattle.transcript_audit.specs.Laws.{AreOfSession}
use Rattle.line_reader.specs.Reader.{AreShort}
use Rattle.transcript_commands.specs.declared.finding.Finding.{Finding}
use Rattle.transcript_commands.specs.declared.finding.Finding.TheVariants.{Legal}
use Rattle.transcript_commands.specs.Finding.{IsAudited}

-- lines are found legal exactly where they are the texts of entries that come next, one for each
-- job
abbrev pub LegalIsNext : Type 0
LegalIsNext =
    (p : PolicyShape) (rounds : ℕ) (jobs : List Job) (batch_ends : List ℕ)
    (lines : List (List ℕ)) → AreShort lines →
    IsAudited (audit_of p rounds jobs batch_ends) lines Legal
    ↔ ((es : List Entry) ×
    (AreNext (audit_of p rounds jobs batch_ends) lines es × (length es ≡ length jobs)))

-- what is found in lines of which none is too long is `legal` exactly where they are those of a
-- legal history that fills the jobs
abbrev pub LegalIsExact : Type 0
LegalIsExact =
    (p : PolicyShape) (rounds : ℕ) (jobs : List Job) (batch_ends : List ℕ)
    (lines : List (List ℕ)) (f : Finding) →
    AreOfSession p rounds jobs batch_ends → AreShort lines →
    IsAudited (audit_of p rounds jobs batch_ends) lines f →
    (f ≡ Legal) ↔ IsTranscript p rounds jobs batch_ends lines
