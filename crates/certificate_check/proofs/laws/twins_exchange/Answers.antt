use Rattle.certificate_check.proofs.TwinLaws.{twins_exchange}
use Rattle.certificate_check.proofs.laws.twins_exchange.Goals as goal

pub returns : goal.returns
returns c = twins_exchange
