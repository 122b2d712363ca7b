use Rattle.wf_board.proofs.Keeping.{steps_keep_completable}
use Rattle.wf_board.proofs.laws.steps_keep_completable.Goals as goal

pub returns : goal.returns
returns c = steps_keep_completable
