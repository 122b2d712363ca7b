use Rattle.transcript_audit.proofs.Exact.{part_is_exact}
use Rattle.transcript_audit.proofs.laws.part_is_exact.Goals as goal

pub returns : goal.returns
returns c = part_is_exact
