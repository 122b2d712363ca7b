use Rattle.certificate_check.proofs.TwinLaws.{twins_chain}
use Rattle.certificate_check.proofs.laws.twins_chain.Goals as goal

pub returns : goal.returns
returns c = twins_chain
