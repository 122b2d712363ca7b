use Rattle.transcript_audit.proofs.Exact.{audit_is_exact}
use Rattle.transcript_audit.proofs.laws.audit_is_exact.Goals as goal

pub returns : goal.returns
returns c = audit_is_exact
