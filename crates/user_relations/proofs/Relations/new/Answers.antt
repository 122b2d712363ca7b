use Rattle.user_relations.proofs.Sound.{sound_none}
use Rattle.user_relations.proofs.Relations.new.Goals as goal

pub invariant_of-result : goal.invariant_of-result
invariant_of-result c = rw c.new.ensures.items sound_none
