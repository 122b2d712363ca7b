use Rattle.std.proofs.Common.{arith}
use Rattle.workflow_schema.proofs.Words.{is_set-or}
use Rattle.workflow_schema.proofs.table.joined.Goals as goal

pub returns-then-has_bit : goal.returns-then-has_bit
returns-then-has_bit c b = grind (arith, is_set-or)
