use Rattle.std.proofs.Common.{arith}
use Rattle.wf_names.proofs.UserBits.{put_in}
use Rattle.wf_names.proofs.user_set.UserSet.insert.Goals as goal

pub returns : goal.returns
returns c = grind (arith, put_in)
