use Rattle.std.proofs.Common.{arith}
use Rattle.rbac_state.proofs.Soundness.{sound_new}
use Rattle.rbac_state.proofs.Roster.new.Goals as goal

pub invariant_of-result : goal.invariant_of-result
invariant_of-result c = grind (arith, sound_new)
