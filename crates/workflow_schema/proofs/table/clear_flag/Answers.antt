use Rattle.std.proofs.Common.{arith}
use Rattle.workflow_schema.proofs.Words.{is_set-without}
use Rattle.workflow_schema.proofs.Rows.{flag_cleared}
use Rattle.workflow_schema.proofs.table.clear_flag.Goals as goal

pub returns : goal.returns
returns c = grind (arith, flag_cleared, is_set-without)
