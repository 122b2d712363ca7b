use Rattle.admin_edits.proofs.Unhurt.{unhurt_plans_stay_valid}
use Rattle.admin_edits.proofs.laws.unhurt_plans_stay_valid.Goals as goal

pub returns : goal.returns
returns c = unhurt_plans_stay_valid
