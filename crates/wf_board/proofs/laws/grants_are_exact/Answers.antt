use Rattle.wf_board.proofs.Grants.{grants_are_exact}
use Rattle.wf_board.proofs.laws.grants_are_exact.Goals as goal

pub returns : goal.returns
returns c = grants_are_exact
