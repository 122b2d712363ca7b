use Rattle.wf_board.proofs.Fixed.{outcome_is_fixed}
use Rattle.wf_board.proofs.laws.outcome_is_fixed.Goals as goal

pub returns : goal.returns
returns c = outcome_is_fixed
