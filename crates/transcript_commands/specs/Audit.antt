-- The command `audit`: the transcript in the input is audited for a policy file and a requests
-- file.
use Rattle.std.specs.Prelude.{◌≡◌, ◌↔◌, ◌<◌, ℕ, List, length, Option, IfSome, MatchBool, nat_lt}
use Rattle.std.specs.Prelude.{true}
use Rattle.wf_names.specs.declared.limits.TheConstants.{REQUESTS_FILE_LIMIT}
use Rattle.wf_outside.specs.Laws.Outside.{Filed, told, missing, untold, HasTaken}
use Rattle.policy_book.specs.Laws.Shapes.{PolicyShape}
use Rattle.line_reader.specs.Jobs.{jobs_of_input}
use Rattle.transcript_audit.specs.Auditor.{AuditShape, IsTranscript, audit_of}
use Rattle.run_record.specs.declared.fault.RunFault.{RunFault}
use Rattle.run_record.specs.declared.fault.RunFault.TheVariants.{Policy, Load, FileTooLong}
use Rattle.run_record.specs.Laws.Run.{Run, IsOrderly}
use Rattle.wf_commands.specs.Once.{AnswersOnce, Refuses}
use Rattle.wf_commands.specs.Load.{IsLoadEnding}
use Rattle.line_reader.specs.Reader.{AreShort, lines_of}
use Rattle.transcript_commands.specs.declared.finding.Finding.{Finding}
use Rattle.transcript_commands.specs.declared.finding.Finding.TheVariants.{Legal}
use Rattle.transcript_commands.specs.Finding.{HasFound, ending_of, finding_text}

-- what is told of the requests file, and how the session was served
pub record AuditOf : Type 0 where
  pub requests : Filed
  pub lanes : ℕ
  pub rounds : ℕ

-- the input before and after the audit
pub record Input : Type 0 where
  pub before : Option (List ℕ)
  pub after : Option (List ℕ)

-- the audit of a session that this policy and these requests begin; where a limit is met in the
-- requests, the lines before it count
abbrev pub audit_for : PolicyShape → AuditOf → List ℕ → AuditShape
audit_for p o requests =
    audit_of p o.rounds (jobs_of_input requests true o.lanes).jobs
    (jobs_of_input requests true o.lanes).ends

-- the input is audited so; where no line is too long it is legal exactly where it is the text of a
-- legal history that fills the jobs
pub record Audits (a : AuditShape) (i : Input) (ending : RunFault) (text : List ℕ) : Type 0 where
  pub finding : Finding
  pub legal : IfSome i.before (λ input. AreShort (lines_of input) →
      (finding ≡ Legal) ↔ IsTranscript a.opening a.rounds a.jobs a.batch_ends (lines_of input))
  pub found : HasFound a finding i.before i.after
  pub ends : ending ≡ ending_of finding
  pub writes : text ≡ finding_text finding

-- for the requests in a file; one that is too long is refused
abbrev pub AuditsRequests : PolicyShape → AuditOf → Input → List ℕ → RunFault → List ℕ → Type 0
AuditsRequests p o i requests ending text =
    MatchBool (nat_lt REQUESTS_FILE_LIMIT (length requests)) (Refuses FileTooLong ending text)
    (Audits (audit_for p o requests) i ending text)

-- by what is told of the file; where it is missing nothing is answered, and one of which nothing is
-- told has some content
abbrev pub AuditsFile : PolicyShape → AuditOf → Input → Filed → RunFault → List ℕ → Type 0
AuditsFile p o i untold ending text = (requests : List ℕ) ×
    AuditsRequests p o i requests ending text
AuditsFile p o i missing ending text = ⊥
AuditsFile p o i (told requests) ending text = AuditsRequests p o i requests ending text

-- the answers about a policy
abbrev pub AuditsPolicy : AuditOf → Input → PolicyShape → RunFault → List ℕ → Type 0
AuditsPolicy o i p ending text = AuditsFile p o i o.requests ending text

-- a run whose requests file is missing, or told and too long, ends while it loads
abbrev pub EndsWithout : Filed → RunFault → Type 0
EndsWithout untold ending = Unit {0}
EndsWithout missing ending = IsLoadEnding ending
EndsWithout (told requests) ending = REQUESTS_FILE_LIMIT < length requests → IsLoadEnding ending

-- how much of the input is read, by the ending: nothing where a file could not be loaded
abbrev pub ReadsAsAudit : RunFault → Option (List ℕ) → Option (List ℕ) → Type 0
ReadsAsAudit Load before after = after ≡ before
ReadsAsAudit FileTooLong before after = after ≡ before
ReadsAsAudit (Policy fault) before after = after ≡ before
ReadsAsAudit ending before after = (bytes : List ℕ) × HasTaken before after bytes

-- a run of `audit` with a policy file, a requests file, and the options of the session
pub record AuditsRun (policy requests : List ℕ) (lanes rounds : ℕ) (r : Run) : Type 0 where
  pub orderly : IsOrderly r
  pub once : AnswersOnce policy
      (AuditsPolicy (record { requests = r.files requests; lanes = lanes; rounds = rounds })
      (record { before = r.before.input; after = r.after.input })) r
  pub without : EndsWithout (r.files requests) r.fault
  pub reads : ReadsAsAudit r.fault r.before.input r.after.input
