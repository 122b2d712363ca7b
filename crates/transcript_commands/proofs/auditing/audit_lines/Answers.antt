use Rattle.std.proofs.Common.{length, Ok, refl, sym, ap, arith}
use Rattle.line_reader.specs.Reader.{pending}
use Rattle.transcript_commands.proofs.Passing.{audit_begins, steps_found, taken_on}
use Rattle.transcript_commands.proofs.auditing.audit_lines.Goals as goal

pub auditing-init : goal.auditing-init
auditing-init g c = record {
  audited = audit_begins c.args.auditor.now (g.S.Source.left c.args.source.now) (pending c.args.reader.now) c.requires.first.first c.requires.nothing;
  at = record { going = c.requires.first.going; here = sym (ap length c.requires.first.first) };
  few = c.requires.first.few;
  within = omega (arith, ap length c.requires.first.first);
  reader = c.requires.reader;
  faults = refl;
}

pub returns-in-Some-clause-found : goal.returns-in-Some-clause-found
returns-in-Some-clause-found g c =
    steps_found c.args.auditor.now c.audit_line.new.auditor (g.S.Source.left c.args.source.now) (g.S.Source.left c.audit_line.new.source)
    (pending c.audit_line.new.reader) (Ok c.in_ok-audit_line.field-0) c.in-Some.finding
    (c.in_ok-audit_line.ensures.steps c.args.auditor.now (g.S.Source.left c.args.source.now) c.auditing.invariant.audited) (let some = c.in-Some.is in cc)

pub returns-in-Some-clause-taken : goal.returns-in-Some-clause-taken
returns-in-Some-clause-taken g c =
    taken_on c.args.auditor.now c.auditing.auditor (g.S.Source.left c.args.source.now) (g.S.Source.left c.auditing.source)
    (g.S.Source.left c.audit_line.new.source) (pending c.auditing.reader)
    c.auditing.invariant.audited c.audit_line.ensures.read.taken

pub returns-in_err-audit_line-clause-taken : goal.returns-in_err-audit_line-clause-taken
returns-in_err-audit_line-clause-taken g c =
    taken_on c.args.auditor.now c.auditing.auditor (g.S.Source.left c.args.source.now) (g.S.Source.left c.auditing.source)
    (g.S.Source.left c.audit_line.new.source) (pending c.auditing.reader)
    c.auditing.invariant.audited c.audit_line.ensures.read.taken
