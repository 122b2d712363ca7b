use Rattle.std.proofs.Common.{arith}
use Rattle.admin_edits.proofs.Searches.{fails, passes}
use Rattle.admin_edits.proofs.claim_cause.permitted_roles.Goals as goal

pub roles-preserved : goal.roles-preserved
roles-preserved c = grind (arith, passes, fails)
