use Rattle.std.proofs.Common.{arith}
use Rattle.admin_edits.proofs.Searches.{found_rule, passed_rule}
use Rattle.admin_edits.proofs.claim_cause.first_falsified.Goals as goal

pub returns-then-falsified : goal.returns-then-falsified
returns-then-falsified c = grind (arith, found_rule)

pub rules-preserved : goal.rules-preserved
rules-preserved c = grind (arith, passed_rule)
