use Rattle.wf_board.proofs.Exact.{edits_are_exact}
use Rattle.wf_board.proofs.laws.edits_are_exact.Goals as goal

pub returns : goal.returns
returns c = edits_are_exact
