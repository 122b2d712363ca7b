-- A workflow's steps, order and permissions, as contracts see them.
use Rattle.std.specs.Prelude.{◌≡◌, ℕ, ◌<◌, Bool, true, false, ◌&&◌, ◌||◌, nat_lt, nat_le, List, []}
use Rattle.std.specs.Prelude.{◌∷◌, length, refl}
use Rattle.std.specs.Coded.{Coded, code_by, coded×, coded_ℕ, coded_list}
use Rattle.std.specs.FinSet as set
use Rattle.basics.specs.Laws.Pairs.{Pairs, pair_cmp, pairs_code, AllPairs}
use Rattle.wf_names.specs.declared.limits.TheConstants.{STEP_LIMIT, ROLE_LIMIT}
use Rattle.workflow_schema.specs.Tables.{leads}

-- the names of the steps, the order pairs (before, after) and the permitted pairs (role, step)
pub record FlowShape : Type 0 where
  pub steps : List (List ℕ)
  pub order : Pairs
  pub permits : Pairs

-- by which values that hold a workflow are told apart
abbrev pub flow_code : Coded FlowShape
flow_code =
    code_by (List (List ℕ) × (Pairs × Pairs))
    (coded× (coded_list (coded_list coded_ℕ)) (coded× pairs_code pairs_code))
    (λ f. (f.steps, (f.order, f.permits)))
    (λ p. record { steps = p.0; order = p.1.0; permits = p.1.1 }) (λ _. refl)

-- a chain of one or more order pairs leads from one step to another
pub data Precedes : Pairs → ℕ → ℕ → Type 0 where
  next : {order : Pairs} {s t : ℕ} → set.contains order (s, t) ≡ true → Precedes order s t
  through : {order : Pairs} {s t u : ℕ} → set.contains order (s, t) ≡ true →
      Precedes order t u → Precedes order s u

-- the same as a test, for steps below the limit of steps
unfoldable pub is_before : Pairs → ℕ → ℕ → Bool
is_before order s t = leads STEP_LIMIT (λ a b. set.contains order (a, b)) s t

-- the least step that comes before itself
pub record IsLeastCycle (order : Pairs) (s : ℕ) : Type 0 where
  pub cycle : Precedes order s s
  pub least : (t : ℕ) → t < s → ¬ Precedes order t t

-- a workflow has at least one step, and at most as many as the limit
abbrev pub is_count : ℕ → Bool
is_count n = nat_lt 0 n && nat_le n STEP_LIMIT

-- a pair stands twice in a list
abbrev pub has_twice : List (ℕ × ℕ) → Bool
has_twice [] = false
has_twice (p ∷ ps) = set.contains (set.from_list {R = pair_cmp} ps) p || has_twice ps

-- what every workflow keeps
pub record IsFlow (f : FlowShape) : Type 0 where
  pub counted : is_count (length f.steps) ≡ true
  pub orders : AllPairs (λ s t. (s < length f.steps) × (t < length f.steps)) f.order
  pub acyclic : (s : ℕ) → ¬ Precedes f.order s s
  pub permitted : AllPairs (λ r s. (r < ROLE_LIMIT) × (s < length f.steps)) f.permits
