use Rattle.std.proofs.Common.{◌≡◌, ◌≤◌, ◌-◌, ℕ, None, drop, length}
use Rattle.line_reader.specs.Reader.{lines_of}
use Rattle.transcript_audit.specs.Auditor.{AuditShape}
use Rattle.transcript_audit.specs.declared.fault.AuditKind.{AuditKind}
use Rattle.transcript_commands.specs.Auditing.{HasTakenAll}
use Rattle.transcript_commands.specs.Resumed.{FailsAt}
use Rattle.transcript_commands.proofs.taking.take_lines.Given as goal

abbrev pub invariant-taking : goal.invariant-taking
invariant-taking g l =
    record {
      within : l.at ≤ length l.text;
      going : l.auditor.fault ≡ None;
      takes : (b : AuditShape) → HasTakenAll l.auditor b (lines_of (drop l.at l.text)) → HasTakenAll l.fn.auditor b (lines_of l.text);
      fails : (n : ℕ) (kind : AuditKind) → FailsAt l.auditor (lines_of (drop l.at l.text)) n kind → FailsAt l.fn.auditor (lines_of l.text) n kind;
    }

abbrev pub decreases-taking : goal.decreases-taking
decreases-taking g l = length l.text - l.at
