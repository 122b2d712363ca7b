use Rattle.certificate_check.proofs.Refuted.{refutes_soundly}
use Rattle.certificate_check.proofs.laws.refutation_is_sound.Goals as goal

pub returns : goal.returns
returns c = refutes_soundly
