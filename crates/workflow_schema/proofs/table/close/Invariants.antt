use Rattle.workflow_schema.specs.Tables.{table_has}
use Rattle.workflow_schema.proofs.Rows.{AreClosed}
use Rattle.workflow_schema.proofs.table.close.Given as goal

abbrev pub invariant-steps : goal.invariant-steps
invariant-steps l = AreClosed (table_has l.initial.rows) l.rows l.k
