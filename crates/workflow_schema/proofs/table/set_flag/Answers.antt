use Rattle.std.proofs.Common.{arith}
use Rattle.workflow_schema.proofs.Words.{is_set-with}
use Rattle.workflow_schema.proofs.Rows.{flag_set}
use Rattle.workflow_schema.proofs.table.set_flag.Goals as goal

pub returns : goal.returns
returns c = grind (arith, flag_set, is_set-with)
