use Rattle.wf_board.proofs.Deciding.{histories_are_exact}
use Rattle.wf_board.proofs.laws.histories_are_exact.Goals as goal

pub returns : goal.returns
returns c = histories_are_exact
