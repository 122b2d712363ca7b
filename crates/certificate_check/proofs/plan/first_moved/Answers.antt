use Rattle.std.proofs.Common.{arith}
use Rattle.certificate_check.proofs.Failing.{first_failing_at}
use Rattle.certificate_check.proofs.plan.first_moved.Goals as goal

pub steps-preserved : goal.steps-preserved
steps-preserved c = grind (arith, first_failing_at)
