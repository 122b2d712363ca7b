use Rattle.wf_board.proofs.Keeping.{histories_keep_completable}
use Rattle.wf_board.proofs.laws.histories_keep_completable.Goals as goal

pub returns : goal.returns
returns c = histories_keep_completable
