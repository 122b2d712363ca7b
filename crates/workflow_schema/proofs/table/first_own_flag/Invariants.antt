use Rattle.std.proofs.Common.{◌≡◌, ℕ, ◌<◌, false}
use Rattle.workflow_schema.specs.Tables.{table_has}
use Rattle.workflow_schema.proofs.table.first_own_flag.Given as goal

abbrev pub invariant-rows : goal.invariant-rows
invariant-rows l = (a : ℕ) → a < l.row → table_has l.rows a a ≡ false
