use Rattle.wf_board.proofs.Keeping.{histories_stay_sound}
use Rattle.wf_board.proofs.laws.histories_stay_sound.Goals as goal

pub returns : goal.returns
returns c = histories_stay_sound
