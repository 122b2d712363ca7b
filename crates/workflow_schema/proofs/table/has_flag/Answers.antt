use Rattle.std.proofs.Common.{arith}
use Rattle.basics.proofs.Booleans.{lt_no}
use Rattle.workflow_schema.proofs.Rows.{table_past}
use Rattle.workflow_schema.proofs.table.has_flag.Goals as goal

pub returns-else-row-rows : goal.returns-else-row-rows
returns-else-row-rows c = grind (arith, lt_no, table_past)
