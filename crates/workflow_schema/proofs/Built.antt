-- A workflow that is made of lists of pairs, and the cycles of an order.
use Rattle.std.proofs.Common.{◌≡◌, ℕ, suc, ◌<◌, inl, inr, true, false, ◌&&◌, nat_eq, List, [], ◌∷◌, length, sym, subst, ◌∙◌, arith}
use Rattle.std.specs.List.{All}
use Rattle.std.specs.FinSet as set
use Rattle.basics.specs.Laws.Pairs.{Pairs, AllPairs, pair_cmp}
use Rattle.wf_names.specs.declared.limits.TheConstants.{ROLE_LIMIT, STEP_LIMIT}
use Rattle.workflow_schema.specs.Tables.{table_has, leads, pairs_in, permitted_by}
use Rattle.workflow_schema.specs.Flows.{Precedes, is_before, is_count, IsLeastCycle}
use Rattle.workflow_schema.specs.Stored.{IsClosedOrder, IsStoredFlow}
use Rattle.basics.proofs.Booleans.{or_cases, and_both, eq_back}
use Rattle.workflow_schema.proofs.Chains.{before_is_chain, chain_is_before}
use Rattle.workflow_schema.proofs.PairLists.{contains-one_more}
use Rattle.workflow_schema.proofs.TableSets.{pairs_in-has}
use Rattle.workflow_schema.proofs.Kept.{few_steps}

-- what holds of each pair of a list holds of each pair of its set
pub all_of : (P : (ℕ × ℕ) → Type 0) (ps : List (ℕ × ℕ)) (a b : ℕ) → All P ps → set.contains (set.from_list {R = pair_cmp} ps) (a, b) ≡ true → P (a, b)
all_of P [] a b h found = let none = set.contains-empty pair_cmp (a, b) in absurd (cc)
all_of P (p ∷ ps) a b h found =
    elim (or_cases (nat_eq a p.0 && nat_eq b p.1) (set.contains (set.from_list {R = pair_cmp} ps) (a, b))
    (sym (contains-one_more (set.from_list ps) p.0 p.1 a b) ∙ found)) [
      | inl e ↦
          let both = and_both (nat_eq a p.0) (nat_eq b p.1) e in
          subst P (λ i. (sym (eq_back a p.0 both.0) i, sym (eq_back b p.1 both.1) i)) (h 0 p (omega arith))
      | inr e ↦ all_of P ps a b (λ k d lt. h (suc k) d (omega arith)) e
    ]

pub closed_order : (rows later : List ℕ) → length rows ≡ STEP_LIMIT →
    ((s t : ℕ) → table_has later s t ≡ leads (length rows) (table_has rows) s t) →
    (s t : ℕ) → table_has later s t ≡ is_before (pairs_in rows) s t
unfolding is_before
closed_order rows later whole closed s t = closed s t ∙ (λ i. leads (whole i) (λ a b. sym (pairs_in-has rows a b) i) s t)

module _ (order : Pairs) (later : List ℕ) (within : AllPairs (λ _ t. t < STEP_LIMIT) order)
    (closed : (s t : ℕ) → table_has later s t ≡ is_before order s t) where
  own_cycle : (s : ℕ) → table_has later s s ≡ true → Precedes order s s
  own_cycle s h = before_is_chain order s s (sym (closed s s) ∙ h)

  no_cycle : (s : ℕ) → table_has later s s ≡ false → ¬ Precedes order s s
  no_cycle s h r = let found = closed s s ∙ chain_is_before order s s within.each r in absurd (cc)

  pub least_cycle : (s : ℕ) → table_has later s s ≡ true → ((t : ℕ) → t < s → table_has later t t ≡ false) → IsLeastCycle order s
  least_cycle s h none = record { cycle = own_cycle s h; least = λ t lt. no_cycle t (none t lt) }

  pub acyclic_order : ((s : ℕ) → table_has later s s ≡ false) → IsClosedOrder order later
  acyclic_order none = record { closed = closed; acyclic = λ s. no_cycle s (none s) }

-- the pairs of a list within bounds, as a set
pub listed_within : (m n : ℕ) (ps : List (ℕ × ℕ)) → All (λ (p : ℕ × ℕ). (p.0 < m) × (p.1 < n)) ps →
    AllPairs (λ a b. (a < m) × (b < n)) (set.from_list ps)
listed_within m n ps h = record { each = λ a b found. all_of (λ (p : ℕ × ℕ). (p.0 < m) × (p.1 < n)) ps a b h found }

-- a workflow's steps are below the limit
pub order_below : (n : ℕ) (order : Pairs) → is_count n ≡ true → AllPairs (λ s t. (s < n) × (t < n)) order → AllPairs (λ _ t. t < STEP_LIMIT) order
order_below n order count within = grind (arith, few_steps)

pub built_flow : (steps : List (List ℕ)) (order : Pairs) (later roles : List ℕ) →
    is_count (length steps) ≡ true →
    AllPairs (λ s t. (s < length steps) × (t < length steps)) order →
    IsClosedOrder order later →
    AllPairs (λ r s. (r < ROLE_LIMIT) × (s < length steps)) (permitted_by roles) →
    length roles ≡ STEP_LIMIT →
    IsStoredFlow steps order later roles
built_flow steps order later roles count orders closed permitted whole = grind arith
