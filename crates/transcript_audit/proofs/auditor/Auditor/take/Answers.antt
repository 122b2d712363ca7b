use Rattle.transcript_audit.proofs.Entering.{read_due, tried_of}
use Rattle.transcript_audit.proofs.auditor.Auditor.take.Goals as goal

pub enter-requires-clause-next : goal.enter-requires-clause-next
enter-requires-clause-next g c = read_due c.args.self.now c.args.line.now c.in_ok-job.job c.in_ok-job.reply c.in_ok-job.ensures

pub returns : goal.returns
returns g c =
    tried_of c.args.self.now c.enter.new.self c.args.line.now c.in_ok-job.job c.in_ok-job.reply c.enter.result c.in_ok-job.ensures c.enter.ensures
