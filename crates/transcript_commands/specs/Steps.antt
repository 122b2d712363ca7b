-- Inside: the steps of an audit, and of the run of its command.
use Rattle.std.specs.Prelude.{◌≡◌, ℕ, ◌+◌, ◌≤◌, List, ◌++◌, length, Option, None, Some, Result}
use Rattle.std.specs.Prelude.{Ok, Err}
use Rattle.wf_outside.specs.Laws.Outside.{Filed, told, missing, untold, HasPart, HasTaken}
use Rattle.policy_book.specs.Laws.Shapes.{PolicyShape}
use Rattle.wf_talk.specs.declared.entry.Entry.{Entry}
use Rattle.line_reader.specs.Reader.{lines_of}
use Rattle.transcript_audit.specs.Auditor.{AuditShape, HasFault, IsNextLine, with_entry}
use Rattle.run_record.specs.declared.fault.RunFault.{RunFault}
use Rattle.run_record.specs.declared.fault.RunFault.TheVariants.{Policy, Read, Write, Load}
use Rattle.run_record.specs.declared.fault.RunFault.TheVariants.{NoMemory, FileTooLong}
use Rattle.wf_commands.specs.Answer.{AnswersAs}
use Rattle.wf_commands.specs.Once.{OverPolicy}
use Rattle.transcript_commands.specs.declared.finding.Finding.{Finding}
use Rattle.transcript_commands.specs.declared.finding.Finding.TheVariants.{Legal, Fault, TooLong}
use Rattle.transcript_commands.specs.Finding.{IsAudited, HasFound, ending_of, finding_text}

-- of an input that had `before` left and has `after` left, the lines in some bytes are the texts of
-- entries that come next, and what else was taken is pending
pub record HasAudited (first a : AuditShape) (before after : Option (List ℕ))
    (pending : List ℕ) : Type 0 where
  pub bytes : List ℕ
  pub taken : HasTaken before after (bytes ++ pending)
  pub goes : (more : List ℕ) (f : Finding) → IsAudited a (lines_of more) f →
      IsAudited first (lines_of (bytes ++ more)) f
  pub count : (more : List ℕ) →
      length (lines_of (bytes ++ more)) ≡ length a.entries + length (lines_of more)

-- the source gave some bytes
abbrev pub HasTakenSome : Option (List ℕ) → Option (List ℕ) → Type 0
HasTakenSome before after = (bytes : List ℕ) × HasTaken before after bytes

-- what becomes of a line
abbrev pub TakesLine : AuditShape → AuditShape → List ℕ → Result (Option Finding) RunFault → Type 0
TakesLine a b line (Ok None) = (e : Entry) × (IsNextLine a line e × (b ≡ with_entry a e))
TakesLine a b line (Ok (Some Legal)) = ⊥
TakesLine a b line (Ok (Some (Fault n kind))) = (n ≡ length a.entries) × HasFault a line kind
TakesLine a b line (Ok (Some (TooLong n))) = ⊥
TakesLine a b line (Err fault) = fault ≡ NoMemory

-- one more line goes on, or something is found
abbrev pub AuditStepsTo : AuditShape → AuditShape → Option (List ℕ) → Option (List ℕ) → List ℕ →
    Result (Option Finding) RunFault → Type 0
AuditStepsTo first b before after pending (Ok None) = HasAudited first b before after pending
AuditStepsTo first b before after pending (Ok (Some f)) = HasFound first f before after
AuditStepsTo first b before after pending (Err fault) = Unit {0}

-- an audit has one more entry, and no more of them than jobs
pub record HasOneMore (a b : AuditShape) : Type 0 where
  pub going : b.fault ≡ None
  pub jobs : b.jobs ≡ a.jobs
  pub more : length b.entries ≡ length a.entries + 1
  pub few : length b.entries ≤ length b.jobs

-- the endings of an audit that has begun
abbrev pub IsReadEnding : RunFault → Type 0
IsReadEnding Read = Unit {0}
IsReadEnding NoMemory = Unit {0}
IsReadEnding fault = ⊥

-- the endings without a finding
abbrev pub IsAuditEnding : RunFault → Type 0
IsAuditEnding FileTooLong = Unit {0}
IsAuditEnding (Policy fault) = Unit {0}
IsAuditEnding Load = Unit {0}
IsAuditEnding Read = Unit {0}
IsAuditEnding NoMemory = Unit {0}
IsAuditEnding fault = ⊥

-- a finding is one of these; the ending without one as that of every command
abbrev pub FindsAs : (RunFault → List ℕ → Type 0) → Result Finding RunFault → Type 0
FindsAs Answers (Ok f) = Answers (ending_of f) (finding_text f)
FindsAs Answers (Err fault) = AnswersAs Answers (Err fault)

-- the same about the policy in a file, by what is told of the file
abbrev pub FindsFile : (PolicyShape → RunFault → List ℕ → Type 0) → Filed →
    Result Finding RunFault → Type 0
FindsFile Answers untold result = (file : List ℕ) × FindsAs (OverPolicy Answers file) result
FindsFile Answers missing result = result ≡ Err Load
FindsFile Answers (told file) result = FindsAs (OverPolicy Answers file) result

-- a finding was told in part; that a line is too long is not told
abbrev pub HasToldPart : Finding → Option (List ℕ) → Option (List ℕ) → Type 0
HasToldPart Legal before after = HasPart before after (finding_text Legal)
HasToldPart (Fault n kind) before after = HasPart before after (finding_text (Fault n kind))
HasToldPart (TooLong n) before after = ⊥

-- what the sink holds where a finding could not be told
abbrev pub FailsAs : Finding → Option (List ℕ) → Option (List ℕ) → RunFault → Type 0
FailsAs f before after NoMemory = after ≡ before
FailsAs f before after Write = HasToldPart f before after
FailsAs f before after fault = ⊥
