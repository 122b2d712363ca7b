use Rattle.std.proofs.Common.{◌≡◌, ℕ, false, length, drop}
use Rattle.std.specs.FinSet as set
use Rattle.wf_names.specs.declared.limits.TheConstants.{STEP_LIMIT}
use Rattle.workflow_schema.specs.Flows.{has_twice}
use Rattle.workflow_schema.specs.Tables.{table_has}
use Rattle.workflow_schema.proofs.PairLists.{set_from}
use Rattle.workflow_schema.proofs.lists.permit_table.Given as goal

abbrev pub invariant-pairs : goal.invariant-pairs
invariant-pairs l = record {
  whole : length l.rows ≡ STEP_LIMIT;
  single : has_twice (drop l.i l.permits) ≡ false;
  same : (a b : ℕ) → table_has l.rows a b ≡ set.contains (set_from l.permits l.i) (b, a);
}
