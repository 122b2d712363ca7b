use Rattle.std.proofs.Common.{◌≡◌, false, drop}
use Rattle.workflow_schema.specs.Flows.{has_twice}
use Rattle.workflow_schema.proofs.PairLists.{set_from}
use Rattle.workflow_schema.proofs.lists.order_table.Given as goal

abbrev pub invariant-pairs : goal.invariant-pairs
invariant-pairs l = record { single : has_twice (drop l.i l.order) ≡ false; same : l.pairs ≡ set_from l.order l.i }
