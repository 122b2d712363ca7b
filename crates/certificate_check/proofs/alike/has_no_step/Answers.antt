use Rattle.std.proofs.Common.{arith}
use Rattle.certificate_check.proofs.Below.{one_fails, one_more_passes}
use Rattle.certificate_check.proofs.alike.has_no_step.Goals as goal

pub returns-then-is_given_to : goal.returns-then-is_given_to
returns-then-is_given_to c = grind (arith, one_fails)

pub steps-preserved : goal.steps-preserved
steps-preserved c = grind (arith, one_more_passes)

pub returns : goal.returns
returns c = grind arith
