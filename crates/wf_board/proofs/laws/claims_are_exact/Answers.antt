use Rattle.wf_board.proofs.Exact.{claims_are_exact}
use Rattle.wf_board.proofs.laws.claims_are_exact.Goals as goal

pub returns : goal.returns
returns c = claims_are_exact
