use Rattle.std.proofs.Common.{arith}
use Rattle.user_relations.proofs.RowSets.{bit_tells}
use Rattle.user_relations.proofs.user_pairs.UserPairs.has.Goals as goal

pub returns : goal.returns
returns c = grind (arith, bit_tells)
