use Rattle.std.proofs.Common.{arith}
use Rattle.user_relations.proofs.Sound.{sound_push_pairs}
use Rattle.user_relations.proofs.Relations.add_pairs.Goals as goal

pub invariant_of-self : goal.invariant_of-self
invariant_of-self c = grind (arith, sound_push_pairs)
