use Rattle.wf_board.proofs.Keeping.{plans_stay_valid}
use Rattle.wf_board.proofs.laws.plans_stay_valid.Goals as goal

pub returns : goal.returns
returns c = plans_stay_valid
