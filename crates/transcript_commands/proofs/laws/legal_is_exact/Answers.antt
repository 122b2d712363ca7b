use Rattle.transcript_commands.proofs.Legal.{legal_is_exact}
use Rattle.transcript_commands.proofs.laws.legal_is_exact.Goals as goal

pub returns : goal.returns
returns c = legal_is_exact c.audit_is_exact.ensures c.faults_exclude.ensures c.next_is_one.ensures
