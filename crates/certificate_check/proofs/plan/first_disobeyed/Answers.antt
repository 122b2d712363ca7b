use Rattle.std.proofs.Common.{arith}
use Rattle.certificate_check.proofs.Failing.{first_failing_at}
use Rattle.certificate_check.proofs.plan.first_disobeyed.Goals as goal

pub rules-preserved : goal.rules-preserved
rules-preserved c = grind (arith, first_failing_at)
