use Rattle.wf_board.proofs.Snaps.{snaps_suffice}
use Rattle.wf_board.proofs.laws.snaps_suffice.Goals as goal

pub returns : goal.returns
returns c = snaps_suffice
