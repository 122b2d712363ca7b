use Rattle.certificate_check.proofs.Dropped.{unmentioned_step_drops}
use Rattle.certificate_check.proofs.laws.unmentioned_step_drops.Goals as goal

pub returns : goal.returns
returns c = unmentioned_step_drops
