-- Inside: how the lines of a text are audited.
use Rattle.std.specs.Prelude.{◌≡◌, ℕ, List, ◌∷◌, ◌++◌}
use Rattle.wf_talk.specs.declared.entry.Entry.{Entry}
use Rattle.line_reader.specs.Reader.{lines_of}
use Rattle.transcript_audit.specs.declared.fault.AuditFault.{AuditFault}
use Rattle.transcript_audit.specs.declared.fault.AuditFault.TheVariants.{At, NoMemory}
use Rattle.transcript_audit.specs.Auditor.{AuditShape, AreNext, IsNextLine, with_entry}
use Rattle.transcript_commands.specs.Resumed.{FailsAt}

-- all of the lines are the texts of entries that come next, and these are taken
pub record HasTakenAll (a b : AuditShape) (lines : List (List ℕ)) : Type 0 where
  pub entries : List Entry
  pub next : AreNext a lines entries
  pub after : b ≡ record a { entries = a.entries ++ entries }

-- the first line of a text is the text of an entry that comes next, and the entry is taken; this is
-- the rest of the text
pub record HasTakenFirst (a b : AuditShape) (text rest : List ℕ) : Type 0 where
  pub line : List ℕ
  pub lines : lines_of text ≡ line ∷ lines_of rest
  pub entry : Entry
  pub next : IsNextLine a line entry
  pub after : b ≡ with_entry a entry

-- why the lines are not taken
abbrev pub FailsIn : AuditShape → List (List ℕ) → AuditFault → Type 0
FailsIn a lines (At n kind) = FailsAt a lines n kind
FailsIn a lines NoMemory = Unit {0}
