use Rattle.wf_lanes.proofs.OneOrder.{one_order}
use Rattle.wf_lanes.proofs.laws.turns_have_one_order.Goals as goal

pub returns : goal.returns
returns c = one_order
