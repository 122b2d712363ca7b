use Rattle.std.proofs.Common.{arith}
use Rattle.user_relations.proofs.RowSets.{none_told}
use Rattle.user_relations.proofs.Numbered.{unlisted}
use Rattle.user_relations.proofs.kinds.listed_beside.Goals as goal

pub returns-in-None : goal.returns-in-None
returns-in-None c = grind (arith, none_told, unlisted)
