-- What an audit finds in a transcript, line after line.
use Rattle.std.specs.Prelude.{◌≡◌, ℕ, ◌+◌, ◌<◌, ◌≤◌, List, [], ◌∷◌, ◌++◌, length, Option, IfSome}
use Rattle.std.specs.Prelude.{codes, decimal}
use Rattle.std.proofs.Common.{◌⊎◌}
use Rattle.wf_names.specs.declared.limits.TheConstants.{TRANSCRIPT_LINE_LIMIT}
use Rattle.wf_outside.specs.Laws.Outside.{HasTaken, IsAtEnd}
use Rattle.wf_talk.specs.declared.entry.Entry.{Entry}
use Rattle.line_reader.specs.Reader.{line_length, lines_of}
use Rattle.transcript_audit.specs.declared.fault.AuditKind.{AuditKind}
use Rattle.transcript_audit.specs.declared.fault.AuditKind.TheVariants.{Text, At, Job, Reply}
use Rattle.transcript_audit.specs.declared.fault.AuditKind.TheVariants.{Missing}
use Rattle.transcript_audit.specs.Auditor.{AuditShape, HasFault, IsNextLine, with_entry}
use Rattle.run_record.specs.declared.fault.RunFault.{RunFault}
use Rattle.run_record.specs.declared.fault.RunFault.TheVariants.{Nothing, Found, LineTooLong}
use Rattle.transcript_commands.specs.declared.finding.Finding.{Finding}
use Rattle.transcript_commands.specs.declared.finding.Finding.TheVariants.{Legal, Fault, TooLong}
use Rattle.transcript_commands.specs.declared.auditing.TheConstants.{PIECE}

-- where no line is left: each job has its entry, or one is missing
abbrev pub EndsAs : AuditShape → Finding → Type 0
EndsAs a Legal = length a.entries ≡ length a.jobs
EndsAs a (Fault n kind) = (kind ≡ Missing) ×
    ((n ≡ length a.entries) × (length a.entries < length a.jobs))
EndsAs a (TooLong n) = ⊥

-- at a line: it has a fault, or is too long
abbrev pub StopsAtLine : AuditShape → List ℕ → Finding → Type 0
StopsAtLine a line Legal = ⊥
StopsAtLine a line (Fault n kind) = (n ≡ length a.entries) ×
    ((line_length line ≤ TRANSCRIPT_LINE_LIMIT) × HasFault a line kind)
StopsAtLine a line (TooLong n) = (n ≡ length a.entries) × (TRANSCRIPT_LINE_LIMIT < line_length line)

-- the line is the text of an entry that comes next, and not too long
abbrev pub AuditsLine : AuditShape → List ℕ → Entry → Type 0
AuditsLine a line e = (line_length line ≤ TRANSCRIPT_LINE_LIMIT) × IsNextLine a line e

-- what is found in some lines
abbrev pub IsAudited : AuditShape → List (List ℕ) → Finding → Type 0
IsAudited a [] f = EndsAs a f
IsAudited a (line ∷ lines) f = StopsAtLine a line f ⊎
    ((e : Entry) × (AuditsLine a line e × IsAudited (with_entry a e) lines f))

-- how a run ends that has found this
abbrev pub ending_of : Finding → RunFault
ending_of Legal = Nothing
ending_of (Fault n kind) = Found
ending_of (TooLong n) = LineTooLong n

-- the word of each kind
abbrev pub audit_kind_word : AuditKind → List ℕ
audit_kind_word Text = codes "text"
audit_kind_word At = codes "at"
audit_kind_word Job = codes "job"
audit_kind_word Reply = codes "reply"
audit_kind_word Missing = codes "missing"

-- the line that tells a fault
abbrev pub audit_fault_line : ℕ → AuditKind → List ℕ
audit_fault_line n kind =
    codes "fault " ++ decimal n ++ codes " " ++ audit_kind_word kind ++ codes "\n"

-- what is written
abbrev pub finding_text : Finding → List ℕ
finding_text Legal = codes "legal\n"
finding_text (Fault n kind) = audit_fault_line n kind
finding_text (TooLong n) = []

-- behind n lines the audit has seen, of the next one and behind it, at most a piece more than a
-- line may have
pub record HasSeenLong (n : ℕ) (bytes rest : List ℕ) : Type 0 where
  pub front : List ℕ
  pub long : List ℕ
  pub parts : bytes ≡ front ++ long
  pub lines : length (lines_of front) ≡ n
  pub few : length long + length rest ≤ TRANSCRIPT_LINE_LIMIT + PIECE

-- how far the input was read: to its end where no line has a fault or is too long; else past the
-- line that has the fault by less than a piece, and of the one that is too long by at most a piece
-- more than a line may have
abbrev pub IsFar : Finding → List ℕ → List ℕ → Option (List ℕ) → Type 0
IsFar Legal bytes rest after = (rest ≡ []) × IsAtEnd after
IsFar (Fault n kind) bytes rest after =
    ((kind ≡ Missing) × ((rest ≡ []) × IsAtEnd after)) ⊎
    ((length (lines_of bytes) ≡ n + 1) × (length rest < PIECE))
IsFar (TooLong n) bytes rest after = (length (lines_of bytes) ≡ n + 1) × HasSeenLong n bytes rest

-- what was found in the input that a source gave: in the bytes that were looked at, and in all of
-- the input where it tells
pub record HasFound (a : AuditShape) (f : Finding) (before after : Option (List ℕ)) : Type 0 where
  pub bytes : List ℕ
  pub rest : List ℕ
  pub taken : HasTaken before after (bytes ++ rest)
  pub found : IsAudited a (lines_of bytes) f
  pub far : IsFar f bytes rest after
  pub whole : IfSome before (λ input. IsAudited a (lines_of input) f)
