use Rattle.wf_board.proofs.Numbers.{histories_number_cases}
use Rattle.wf_board.proofs.laws.histories_number_cases.Goals as goal

pub returns : goal.returns
returns c = histories_number_cases
