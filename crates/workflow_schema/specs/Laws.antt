-- What is true of the order of every workflow.
use Rattle.std.specs.Prelude.{◌≡◌, ℕ, ◌<◌, ◌↔◌, true, IsTrue}
use Rattle.std.specs.FinSet as set
use Rattle.wf_names.specs.declared.limits.TheConstants.{STEP_LIMIT}
use Rattle.basics.specs.Laws.Pairs.{Pairs}
use Rattle.workflow_schema.specs.Flows.{FlowShape, IsFlow, Precedes, is_before}

-- the test of the closed order holds exactly where a chain of order pairs leads from one step to
-- the other
abbrev pub IsChainTest : Type 0
IsChainTest = (f : FlowShape) (s t : ℕ) → IsFlow f → IsTrue (is_before f.order s t) ↔
    Precedes f.order s t

-- what comes after a later step comes after an earlier one
abbrev pub IsChained : Type 0
IsChained = (f : FlowShape) (s t u : ℕ) → Precedes f.order s t → Precedes f.order t u →
    Precedes f.order s u

-- the same of any pairs of steps below the limit, be they an order or not
abbrev pub OrderIsDecided : Type 0
OrderIsDecided = (pairs : Pairs) (s t : ℕ) →
    ((a b : ℕ) → set.contains pairs (a, b) ≡ true → b < STEP_LIMIT) →
    IsTrue (is_before pairs s t) ↔ Precedes pairs s t
