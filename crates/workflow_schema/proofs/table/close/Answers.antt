use Rattle.std.proofs.Common.{arith, rules}
use Rattle.workflow_schema.proofs.Rows.{close_start, close_step}
use Rattle.workflow_schema.proofs.table.close.Goals as goal

pub steps-init : goal.steps-init
steps-init c = close_start c.args.rows.now

pub steps-preserved : goal.steps-preserved
steps-preserved c = search (rules, arith, close_step)
