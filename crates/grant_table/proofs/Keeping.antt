-- What a table keeps where one row changes, and where one is added.
use Rattle.std.proofs.Common.{◌≡◌, ℕ, ◌+◌, ◌<◌, ◌≤◌, Bool, true, false, cond, ◌⊎◌, inl, inr, nat_eq, List, [], ◌∷◌, ◌++◌, Option, None, Some, is_some}
use Rattle.std.proofs.Common.{IsSomeAnd, slice_set, if◌then◌else◌, refl, sym, ap, subst, ◌∙◌, arith}
use Rattle.std.specs.Option.{option_map}
use Rattle.basics.proofs.Booleans.{eq_back, eq_is}
use Rattle.grant_table.proofs.Counts.{counted}
use Rattle.wf_names.specs.declared.limits.TheConstants.{OPEN_CASE_LIMIT, CASE_LIMIT}
use Rattle.std.specs.List.{list_all}
use Rattle.wf_names.specs.States.{is_done, is_finished, is_live}
use Rattle.wf_names.specs.declared.states.Phase.{Phase}
use Rattle.wf_names.specs.declared.states.Phase.TheVariants.{Done}
use Rattle.case_record.specs.Cases.{CaseShape, as_finished, is_open, state_at}
use Rattle.grant_table.specs.declared.rows.Row.{Row}
use Rattle.grant_table.specs.Cases.{CasesShape, case_at, case_in, change_row, finished_row, is_open_case, ones, open_count, plan_of, row_at}
use Rattle.grant_table.specs.Cases.{with_row}
use Rattle.grant_table.specs.Kept.{AreNumberedBelow, ArePlannedWhileOpen, AscendFrom, IsSoundTable}

row_is : (n : ℕ) (x : Row) (rest : Option Row) (r : Row) (b : Bool) → nat_eq x.number n ≡ b → (if b then Some x else rest) ≡ Some r →
    ((nat_eq x.number n ≡ true) × (x ≡ r)) ⊎ ((nat_eq x.number n ≡ false) × (rest ≡ Some r))
row_is n x rest r b e h = grind arith

-- the row with a number is the first one or stands in the rest
row_case : (n : ℕ) (x : Row) (xs : List Row) (r : Row) → row_at n (x ∷ xs) ≡ Some r → ((nat_eq x.number n ≡ true) × (x ≡ r)) ⊎
    ((nat_eq x.number n ≡ false) × (row_at n xs ≡ Some r))
row_case n x xs r h = row_is n x (row_at n xs) r (nat_eq x.number n) refl h

pub row_number : (n : ℕ) (rows : List Row) (r : Row) → row_at n rows ≡ Some r → r.number ≡ n
row_number n [] r h = cc
row_number n (x ∷ xs) r h = elim (row_case n x xs r h) [
  | inl hit ↦ ap (λ y. y.number) (sym hit.1) ∙ eq_back x.number n hit.0
  | inr miss ↦ row_number n xs r miss.1
]

ascend_changed : (low n : ℕ) (rows : List Row) (r new : Row) → AscendFrom low rows → row_at n rows ≡ Some r → new.number ≡ n →
    AscendFrom low (change_row n (λ _. new) rows)
ascend_changed low n [] r new order h same = tt
ascend_changed low n (x ∷ xs) r new order h same = elim (row_case n x xs r h) [
  | inl hit ↦
      let e : x.number ≡ new.number = eq_back x.number n hit.0 ∙ sym same in
      rw hit.0 (subst (λ m. low ≤ m) e order.0, subst (λ m. AscendFrom (m + 1) xs) e order.1)
  | inr miss ↦ rw miss.0 (order.0, ascend_changed (x.number + 1) n xs r new order.1 miss.1 same)
]

below_changed : (high n : ℕ) (rows : List Row) (r new : Row) → AreNumberedBelow high rows → row_at n rows ≡ Some r → new.number ≡ n →
    AreNumberedBelow high (change_row n (λ _. new) rows)
below_changed high n [] r new below h same = tt
below_changed high n (x ∷ xs) r new below h same = elim (row_case n x xs r h) [
  | inl hit ↦
      let e : x.number ≡ new.number = eq_back x.number n hit.0 ∙ sym same in
      rw hit.0 (subst (λ m. m < high) e below.0, below.1)
  | inr miss ↦ rw miss.0 (below.0, below_changed high n xs r new below.1 miss.1 same)
]

planned_changed : (n : ℕ) (rows : List Row) (r new : Row) → ArePlannedWhileOpen rows → row_at n rows ≡ Some r → is_some new.plan ≡ is_open new.case →
    ArePlannedWhileOpen (change_row n (λ _. new) rows)
planned_changed n [] r new planned h is = tt
planned_changed n (x ∷ xs) r new planned h is = elim (row_case n x xs r h) [
  | inl hit ↦ rw hit.0 (is, planned.1)
  | inr miss ↦ rw miss.0 (planned.0, planned_changed n xs r new planned.1 miss.1 is)
]

-- a plan is kept for a case exactly where it is open
pub planned_at : (n : ℕ) (rows : List Row) (r : Row) → ArePlannedWhileOpen rows → row_at n rows ≡ Some r → is_some r.plan ≡ is_open r.case
planned_at n [] r planned h = cc
planned_at n (x ∷ xs) r planned h = elim (row_case n x xs r h) [
  | inl hit ↦ subst (λ (y : Row). is_some y.plan ≡ is_open y.case) hit.1 planned.0
  | inr miss ↦ planned_at n xs r planned.1 miss.1
]

-- how many cases are open after a change
pub count_changed : (n : ℕ) (rows : List Row) (r new : Row) → row_at n rows ≡ Some r →
    open_count (change_row n (λ _. new) rows) + ones r ≡ open_count rows + ones new
count_changed n [] r new h = cc
count_changed n (x ∷ xs) r new h = elim (row_case n x xs r h) [
  | inl hit ↦
      let same : ones x ≡ ones r = ap ones hit.1 in
      rw hit.0 (omega (arith, same, counted new xs, counted x xs))
  | inr miss ↦ rw miss.0 (omega (arith, count_changed n xs r new miss.1, counted x xs, counted x (change_row n (λ _. new) xs)))
]

-- a change by a function of the row is the row that it gives, put in its place
pub const_changed : (n : ℕ) (rows : List Row) (r : Row) (f : Row → Row) → row_at n rows ≡ Some r → change_row n (λ _. f r) rows ≡ change_row n f rows
const_changed n [] r f h = refl
const_changed n (x ∷ xs) r f h = elim (row_case n x xs r h) [
  | inl hit ↦ rw hit.0 (ap (λ y. f y ∷ xs) (sym hit.1))
  | inr miss ↦ rw miss.0 (ap (λ ys. x ∷ ys) (const_changed n xs r f miss.1))
]

-- the row with a number after a change
pub row_changed : (n : ℕ) (rows : List Row) (r new : Row) → row_at n rows ≡ Some r → new.number ≡ n → row_at n (change_row n (λ _. new) rows) ≡ Some new
row_changed n [] r new h same = cc
row_changed n (x ∷ xs) r new h same = elim (row_case n x xs r h) [
  | inl hit ↦ rw (hit.0, eq_is new.number n same) refl
  | inr miss ↦ rw (miss.0, miss.0) (row_changed n xs r new miss.1 same)
]

-- a table with a row put in the place of the one with its number is kept
pub kept_put :
    (ever live live' : ℕ) (rows : List Row) (new : Row) (ended : Bool) → IsSoundTable rows ever live →
    IsSomeAnd (row_at new.number rows) (λ r. ones r ≡ ones new + cond ended 1 0) → is_some new.plan ≡ is_open new.case →
    live' + cond ended 1 0 ≡ live → IsSoundTable (change_row new.number (λ _. new) rows) ever live'
kept_put ever live live' rows new ended kept there planned left = grind (arith, ascend_changed, below_changed, planned_changed, counted, count_changed)

-- an open case ends only where there is one
pub counts_one : (ever live : ℕ) (rows : List Row) (new : Row) (ended : Bool) → IsSoundTable rows ever live →
    IsSomeAnd (row_at new.number rows) (λ r. ones r ≡ ones new + cond ended 1 0) → cond ended 1 0 ≤ live
counts_one ever live rows new ended kept there = counts_at (row_at new.number rows) refl there
  where
    counts_at : (o : Option Row) → row_at new.number rows ≡ o → IsSomeAnd o (λ r. ones r ≡ ones new + cond ended 1 0) → cond ended 1 0 ≤ live
    counts_at None h counts = absurd counts
    counts_at (Some r) h counts = omega (arith, count_changed new.number rows r new h, kept.counted, counts)

-- a row that a function gives, put in its place, is the change by that function
pub put_rows : (n : ℕ) (rows : List Row) (r new : Row) (f : Row → Row) → row_at n rows ≡ Some r → new ≡ f r → (f r).number ≡ r.number →
    change_row new.number (λ _. new) rows ≡ change_row n f rows
put_rows n rows r new f h is same =
    let number : new.number ≡ n = ap (λ (y : Row). y.number) is ∙ same ∙ row_number n rows r h in
    (λ i. change_row (number i) (λ _. is i) rows) ∙ const_changed n rows r f h

-- a row with the number of one that is there finds that one
pub there_again : (P : Row → Type 0) (n : ℕ) (rows : List Row) (r new : Row) → row_at n rows ≡ Some r → new.number ≡ r.number → P r →
    IsSomeAnd (row_at new.number rows) P
there_again P n rows r new h same holds = grind (arith, row_number)

-- what is known of the case with a number is known of its row
pub known : (P : CaseShape → Type 0) (n : ℕ) (rows : List Row) (r : Row) → row_at n rows ≡ Some r → IsSomeAnd (case_in n rows) P → P r.case
known P n rows r h there = subst (λ o. IsSomeAnd (option_map (λ (y : Row). y.case) o) P) h there

ascend_added : (low : ℕ) (rows : List Row) (new : Row) → AscendFrom low rows → AreNumberedBelow new.number rows → low ≤ new.number →
    AscendFrom low (rows ++ new ∷ [])
ascend_added low [] new order below h = (h, tt)
ascend_added low (r ∷ rs) new order below h = (order.0, ascend_added (r.number + 1) rs new order.1 below.1 (omega (arith, below.0)))

below_added : (rows : List Row) (new : Row) → AreNumberedBelow new.number rows → AreNumberedBelow (new.number + 1) (rows ++ new ∷ [])
below_added [] new below = (omega arith, tt)
below_added (r ∷ rs) new below = (omega (arith, below.0), below_added rs new below.1)

planned_added : (rows : List Row) (new : Row) → ArePlannedWhileOpen rows → is_some new.plan ≡ is_open new.case → ArePlannedWhileOpen (rows ++ new ∷ [])
planned_added [] new planned is = (is, tt)
planned_added (r ∷ rs) new planned is = (planned.0, planned_added rs new planned.1 is)

pub count_added : (rows : List Row) (new : Row) → open_count (rows ++ new ∷ []) ≡ open_count rows + ones new
count_added [] new = omega (arith, counted new [])
count_added (r ∷ rs) new = omega (arith, count_added rs new, counted r rs, counted r (rs ++ new ∷ []))

-- a table with an open case added is kept
pub kept_added :
    (ever live : ℕ) (rows : List Row) (new : Row) → IsSoundTable rows ever live → new.number ≡ ever → is_open new.case ≡ true → is_some new.plan ≡ true →
    live < OPEN_CASE_LIMIT → ever < CASE_LIMIT → IsSoundTable (rows ++ new ∷ []) (ever + 1) (live + 1)
kept_added ever live rows new kept same open_case plan few limit = grind (arith, ascend_added, below_added, planned_added, counted, count_added)

-- a table with one row changed
pub table_put : (t : CasesShape) (n : ℕ) (r new : Row) (f : Row → Row) → row_at n t.rows ≡ Some r → new ≡ f r → (f r).number ≡ r.number →
    with_row t new.number (λ _. new) ≡ with_row t n f
table_put t n r new f h is same = λ i. record { rows = put_rows n t.rows r new f h is same i; ever = t.ever; spare = t.spare }

-- an open case ends where its last step is finished
phase_counts : (phase : Phase) (b : Bool) → is_live phase ≡ true →
    cond (is_live phase) 1 0 ≡ (cond (is_live (if b then Done else phase)) 1 0 + cond (is_done (if b then Done else phase)) 1 0)
phase_counts phase b h = grind arith

pub finish_counts : (s : ℕ) (r : Row) → is_open r.case ≡ true → ones r ≡ ones (finished_row s r) + cond (is_done (finished_row s r).case.phase) 1 0
finish_counts s r h = phase_counts r.case.phase (list_all is_finished (slice_set r.case.states s (as_finished (state_at r.case s)))) h

-- the case with a number after a change
pub case_changed : (P : CaseShape → Type 0) (t : CasesShape) (n : ℕ) (r new : Row) → row_at n t.rows ≡ Some r → new.number ≡ r.number → P new.case →
    IsSomeAnd (case_at (with_row t new.number (λ _. new)) n) P
case_changed P t n r new h same holds = grind (arith, row_number, row_changed)

-- a plan is kept for the case with a number exactly where it is open
pub planned_case : (n : ℕ) (rows : List Row) → ArePlannedWhileOpen rows → is_some (plan_of (row_at n rows)) ≡ is_open_case (case_in n rows)
planned_case n rows planned = grind (arith, planned_at)
