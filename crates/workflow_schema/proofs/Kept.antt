-- What a workflow keeps, from its tables.
use Rattle.std.proofs.Common.{◌≡◌, ℕ, ◌<◌, ◌≤◌, inl, inr, Bool, true, not, ◌&&◌, ◌||◌, nat_eq, nat_lt, nat_le, List, length, sym, ◌∙◌, arith}
use Rattle.std.specs.Bool.{IsTrue}
use Rattle.std.specs.FinSet as set
use Rattle.basics.specs.Laws.Pairs.{Pairs}
use Rattle.wf_names.specs.declared.limits.TheConstants.{ROLE_LIMIT, STEP_LIMIT}
use Rattle.workflow_schema.specs.Tables.{permitted_by, table_has}
use Rattle.workflow_schema.specs.Flows.{FlowShape, Precedes, is_before, is_count, IsFlow}
use Rattle.workflow_schema.specs.Stored.{IsStoredFlow}
use Rattle.basics.proofs.Booleans.{or_cases, and_both, eq_back, le_back}
use Rattle.workflow_schema.proofs.Chains.{before_is_chain, chain_is_before}
use Rattle.workflow_schema.proofs.TableSets.{permitted_by-has}

pub few_steps : (n : ℕ) → is_count n ≡ true → n ≤ STEP_LIMIT
few_steps n h = le_back n STEP_LIMIT (and_both (nat_lt 0 n) (nat_le n STEP_LIMIT) h).1

-- the test of the closed table tells the chains
pub tells_chains : (f : FlowShape) (s t : ℕ) (answer : Bool) → IsFlow f → answer ≡ is_before f.order s t → (IsTrue answer → Precedes f.order s t) ×
    (Precedes f.order s t → IsTrue answer)
tells_chains f s t answer kept is = grind (arith, few_steps, before_is_chain, chain_is_before)

-- other permissions of steps of the workflow to roles
keeps_rows : (steps : List (List ℕ)) (order : Pairs) (later old rows : List ℕ) → IsStoredFlow steps order later old →
    ((r s : ℕ) → set.contains (permitted_by rows) (r, s) ≡ true → (r < ROLE_LIMIT) × (s < length steps)) → length rows ≡ length old →
    IsStoredFlow steps order later rows
keeps_rows steps order later old rows kept known whole = grind arith

pub keeps_permitted :
    (steps : List (List ℕ)) (order : Pairs) (later old rows : List ℕ) (r s : ℕ) → IsStoredFlow steps order later old →
    ((a b : ℕ) → table_has rows a b ≡ ((nat_eq a s && nat_eq b r) || table_has old a b)) →
    r < ROLE_LIMIT → s < length steps → length rows ≡ length old → IsStoredFlow steps order later rows
keeps_permitted steps order later old rows r s kept h role step whole =
    keeps_rows steps order later old rows kept (λ a b found.
    elim (or_cases (nat_eq b s && nat_eq a r) (table_has old b a) (sym (h b a) ∙ sym (permitted_by-has rows a b) ∙ found)) [
      | inl e ↦
          let both = and_both (nat_eq b s) (nat_eq a r) e in
          let same_step = eq_back b s both.0 in
          let same_role = eq_back a r both.1 in
          (omega arith, omega arith)
      | inr e ↦ kept.flow.permitted.each a b (permitted_by-has old a b ∙ e)
    ]) whole

pub keeps_forbidden :
    (steps : List (List ℕ)) (order : Pairs) (later old rows : List ℕ) (r s : ℕ) → IsStoredFlow steps order later old →
    ((a b : ℕ) → table_has rows a b ≡ (not (nat_eq a s && nat_eq b r) && table_has old a b)) →
    length rows ≡ length old → IsStoredFlow steps order later rows
keeps_forbidden steps order later old rows r s kept h whole =
    keeps_rows steps order later old rows kept (λ a b found.
    kept.flow.permitted.each a b
    (permitted_by-has old a b ∙
    (and_both (not (nat_eq b s && nat_eq a r)) (table_has old b a) (sym (h b a) ∙ sym (permitted_by-has rows a b) ∙ found)).1)) whole
