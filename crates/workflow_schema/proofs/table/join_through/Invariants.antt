use Rattle.std.proofs.Common.{◌≡◌, get_or}
use Rattle.workflow_schema.proofs.Rows.{AreJoined}
use Rattle.workflow_schema.proofs.table.join_through.Given as goal

abbrev pub invariant-rows : goal.invariant-rows
invariant-rows l = record { through : l.through ≡ get_or l.initial.rows l.k 0; joined : AreJoined l.initial.rows l.rows l.k l.row-index }
