-- Inside: an audit between the lines of its input.
use Rattle.std.specs.Prelude.{◌≡◌, ◌≤◌, ℕ, List, [], length, Option, None}
use Rattle.wf_names.specs.declared.limits.TheConstants.{SESSION_LINE_LIMIT, TRANSCRIPT_LINE_LIMIT}
use Rattle.line_reader.specs.Reader.{ReaderShape}
use Rattle.run_record.specs.declared.fault.RunFault.{RunFault}
use Rattle.run_record.specs.Fault.{CountsReadsAlone}
use Rattle.transcript_audit.specs.Auditor.{AuditShape}
use Rattle.transcript_commands.specs.declared.auditing.TheConstants.{PIECE}
use Rattle.transcript_commands.specs.Steps.{HasTakenSome}

-- an audit stands before the first line
pub record IsUnread (a : AuditShape) : Type 0 where
  pub going : a.fault ≡ None
  pub first : a.entries ≡ []
  pub few : length a.jobs ≤ SESSION_LINE_LIMIT

-- an audit stands before the line with a number, and has found no fault
pub record IsAtLine (a : AuditShape) (number : ℕ) : Type 0 where
  pub going : a.fault ≡ None
  pub here : number ≡ length a.entries

-- a reader looks for lines of a transcript, and takes one piece of the input at once
pub record ReadsLines (r : ReaderShape) : Type 0 where
  pub limit : r.limit ≡ TRANSCRIPT_LINE_LIMIT
  pub room : r.room ≡ PIECE

-- some of the input was taken, and a fault is counted where it is one of reading
pub record HasReadSome (fault : RunFault) (before after : Option (List ℕ))
    (faults faults_after : ℕ) : Type 0 where
  pub taken : HasTakenSome before after
  pub counts : CountsReadsAlone fault faults faults_after
