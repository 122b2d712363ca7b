-- What an audit finds in a transcript, and the words of it.
use Rattle.std.specs.Prelude.{◌≡◌, ◌↔◌, ◌<◌, ◌≤◌, ◌==◌, ℕ, zero, suc, if◌then◌else◌, Bool, true}
use Rattle.std.specs.Prelude.{false, List, [], ◌∷◌, ◌++◌, length, codes, decimal}
use Rattle.wf_names.specs.declared.limits.TheConstants.{TRANSCRIPT_LINE_LIMIT}
use Rattle.wf_talk.specs.declared.entry.Entry.{Entry}
use Rattle.line_reader.specs.Reader.{AreShort, line_length}
use Rattle.transcript_audit.specs.declared.fault.AuditKind.{AuditKind}
use Rattle.transcript_audit.specs.declared.fault.AuditKind.TheVariants.{Text, At, Job as WrongJob}
use Rattle.transcript_audit.specs.declared.fault.AuditKind.TheVariants.{Reply, Missing}
use Rattle.transcript_audit.specs.Auditor.{AuditShape, AreNext, HasFault, IsTranscript}
use Rattle.case_story.specs.declared.verdict.Verdict.{Verdict}
use Rattle.case_story.specs.declared.verdict.Verdict.TheVariants.{Legal, Fault, TooLong}

-- how many lines are right, from the first on
abbrev pub right_lines : Verdict → ℕ
right_lines (Legal n) = n
right_lines (Fault n kind) = n
right_lines (TooLong n) = n

abbrev pub is_wrong : Verdict → Bool
is_wrong (Legal n) = false
is_wrong (Fault n kind) = true
is_wrong (TooLong n) = true

-- behind some entries the lines that are left end the audit so: none is left and each job has its
-- entry; the first of them has a fault, or none is left and an entry is missing; or the first of
-- them is too long
abbrev pub EndsWith : AuditShape → List (List ℕ) → Verdict → Type 0
EndsWith a [] (Legal n) = length a.entries ≡ length a.jobs
EndsWith a [] (Fault n kind) = (kind ≡ Missing) × (length a.entries < length a.jobs)
EndsWith a [] (TooLong n) = ⊥
EndsWith a (line ∷ more) (Legal n) = ⊥
EndsWith a (line ∷ more) (Fault n kind) = (line_length line ≤ TRANSCRIPT_LINE_LIMIT) ×
    HasFault a line kind
EndsWith a (line ∷ more) (TooLong n) = TRANSCRIPT_LINE_LIMIT < line_length line

-- the first lines, as many as are right, are the texts of entries that come next, and the others
-- end the audit so
pub record IsVerdict (a : AuditShape) (lines : List (List ℕ)) (v : Verdict) : Type 0 where
  pub front : List (List ℕ)
  pub rest : List (List ℕ)
  pub parts : lines ≡ front ++ rest
  pub count : length front ≡ right_lines v
  pub short : AreShort front
  pub entries : List Entry
  pub next : AreNext a front entries
  pub ends : EndsWith (record a { entries = a.entries ++ entries }) rest v

-- what the audit of these lines finds; where none is too long nothing is wrong exactly where they
-- are those of a legal history that fills the jobs
pub record EndsInVerdict (a : AuditShape) (lines : List (List ℕ)) (v : Verdict) : Type 0 where
  pub found : IsVerdict a lines v
  pub exact : AreShort lines → (is_wrong v ≡ false) ↔
      IsTranscript a.opening a.rounds a.jobs a.batch_ends lines

-- why a line is wrong
abbrev pub kind_words : AuditKind → List ℕ
kind_words Text = codes "it does not end with a line feed, or tells no reply to its request"
kind_words At = codes "the place that it tells is not the one where it stands"
kind_words WrongJob = codes "it does not answer the next request of its lane"
kind_words Reply = codes "its reply is none that the server may give here"
kind_words Missing = codes "a request has no entry"

-- whether it is there at all
abbrev pub state_words : AuditKind → List ℕ
state_words Text = codes " is wrong ("
state_words At = codes " is wrong ("
state_words WrongJob = codes " is wrong ("
state_words Reply = codes " is wrong ("
state_words Missing = codes " is missing ("

-- which line is the first that is wrong, and why
abbrev pub fault_words : ℕ → AuditKind → List ℕ
fault_words n kind =
    codes "audited: line " ++ decimal n ++ state_words kind ++ kind_words kind ++ codes ")"

-- up to which line all is right, if there is one
abbrev pub up_to : ℕ → List ℕ
up_to zero = []
up_to (suc n) = codes "; up to line " ++ decimal n ++ codes " all is as told"

abbrev pub legal_words : ℕ → List ℕ
legal_words n = if n == 1 then codes "audited: legal, 1 entry" else codes
    "audited: legal, " ++ decimal n ++ codes " entries"

-- the words of a verdict; one of a line that is too long is not told
abbrev pub verdict_words : Verdict → List ℕ
verdict_words (Legal n) = legal_words n
verdict_words (Fault n kind) = fault_words n kind ++ up_to n
verdict_words (TooLong n) = []
