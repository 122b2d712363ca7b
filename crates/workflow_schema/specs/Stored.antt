-- Inside: what the tables of a workflow keep.
use Rattle.std.specs.Prelude.{◌≡◌, ℕ, List, length}
use Rattle.basics.specs.Laws.Pairs.{Pairs}
use Rattle.wf_names.specs.declared.limits.TheConstants.{STEP_LIMIT}
use Rattle.workflow_schema.specs.Tables.{table_has, permitted_by}
use Rattle.workflow_schema.specs.Flows.{IsFlow, Precedes, is_before}

-- no step comes before itself in the order, and the table tells which comes before which
pub record IsClosedOrder (order : Pairs) (later : List ℕ) : Type 0 where
  pub closed : (s t : ℕ) → table_has later s t ≡ is_before order s t
  pub acyclic : (s : ℕ) → ¬ Precedes order s s

-- the tables are those of a workflow, and the order's table is closed
pub record IsStoredFlow (steps : List (List ℕ)) (order : Pairs) (later roles : List ℕ) : Type
    0 where
  pub flow : IsFlow (record { steps = steps; order = order; permits = permitted_by roles })
  pub closed : (s t : ℕ) → table_has later s t ≡ is_before order s t
  pub rows : length roles ≡ STEP_LIMIT
