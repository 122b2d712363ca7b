use Rattle.std.proofs.Common.{arith}
use Rattle.wf_names.proofs.UserBits.{taken_out}
use Rattle.wf_names.proofs.user_set.UserSet.remove.Goals as goal

pub returns : goal.returns
returns c = grind (arith, taken_out)
