use Rattle.std.proofs.Common.{arith}
use Rattle.user_relations.proofs.RowSets.{after_told, ahead_told}
use Rattle.user_relations.proofs.user_pairs.UserPairs.beside.Goals as goal

pub returns : goal.returns
returns c = grind (arith, ahead_told, after_told)
