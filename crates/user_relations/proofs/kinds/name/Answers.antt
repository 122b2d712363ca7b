use Rattle.std.proofs.Common.{arith}
use Rattle.user_relations.proofs.Named.{same_is_name, other_is_name, name_read}
use Rattle.user_relations.proofs.Numbered.{length-shapes}
use Rattle.user_relations.proofs.kinds.name.Goals as goal

pub known_name-requires : goal.known_name-requires
known_name-requires c = same_is_name

pub known_name-requires-in-1 : goal.known_name-requires-in-1
known_name-requires-in-1 c = other_is_name

pub returns-in_default : goal.returns-in_default
returns-in_default c = grind (arith, name_read, length-shapes)
