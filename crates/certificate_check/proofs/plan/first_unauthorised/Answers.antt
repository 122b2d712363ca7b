use Rattle.std.proofs.Common.{arith}
use Rattle.certificate_check.proofs.Failing.{first_failing_at}
use Rattle.certificate_check.proofs.plan.first_unauthorised.Goals as goal

pub steps-preserved : goal.steps-preserved
steps-preserved c = grind (arith, first_failing_at)

pub returns-then-not-may_perform : goal.returns-then-not-may_perform
returns-then-not-may_perform c = grind (arith, first_failing_at)
