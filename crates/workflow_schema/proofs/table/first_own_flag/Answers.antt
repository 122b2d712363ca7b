use Rattle.std.proofs.Common.{arith}
use Rattle.workflow_schema.proofs.Rows.{own_none}
use Rattle.workflow_schema.proofs.table.first_own_flag.Goals as goal

pub returns : goal.returns
returns c = own_none c.args.rows.now c.rows.row (omega arith) c.rows.invariant
