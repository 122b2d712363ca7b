use Rattle.std.proofs.Common.{◌≡◌, ◌≤◌, ◌-◌, length}
use Rattle.wf_names.specs.declared.limits.TheConstants.{SESSION_LINE_LIMIT}
use Rattle.line_reader.specs.Reader.{pending}
use Rattle.transcript_commands.specs.Lines.{IsAtLine, ReadsLines}
use Rattle.transcript_commands.specs.Steps.{HasAudited}
use Rattle.transcript_commands.proofs.auditing.audit_lines.Given as goal

abbrev pub invariant-auditing : goal.invariant-auditing
invariant-auditing g l =
    record {
      audited : HasAudited l.fn.auditor l.auditor (g.S.Source.left l.fn.source) (g.S.Source.left l.source) (pending l.reader);
      at : IsAtLine l.auditor l.number;
      few : length l.auditor.jobs ≤ SESSION_LINE_LIMIT;
      within : length l.auditor.entries ≤ length l.auditor.jobs;
      reader : ReadsLines l.reader;
      faults : g.S.Source.faults l.source ≡ g.S.Source.faults l.fn.source;
    }

abbrev pub decreases-auditing : goal.decreases-auditing
decreases-auditing g l = length l.auditor.jobs - length l.auditor.entries
