use Rattle.std.proofs.Common.{arith}
use Rattle.user_relations.proofs.RowBits.{bit_written}
use Rattle.user_relations.proofs.blocks.write.Goals as goal

pub returns-clause-ahead : goal.returns-clause-ahead
returns-clause-ahead c = grind (arith, bit_written)

pub returns-clause-behind : goal.returns-clause-behind
returns-clause-behind c = grind (arith, bit_written)
