use Rattle.std.proofs.Common.{arith}
use Rattle.workflow_schema.proofs.Rows.{join_end}
use Rattle.workflow_schema.proofs.table.join_through.Goals as goal

pub returns : goal.returns
returns c = join_end c.args.rows.now c.rows.rows c.args.k c.rows.row-index (omega arith) c.rows.invariant.joined
