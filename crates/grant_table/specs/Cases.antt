-- A table of cases, as contracts see it.
use Rattle.std.specs.Prelude.{◌≡◌, ℕ, ◌+◌, ◌-◌, ◌<◌, ◌≤◌, Bool, true, false, cond, ◌&&◌, nat_eq}
use Rattle.std.specs.Prelude.{nat_le, List, [], ◌∷◌, ◌++◌, length, Option, None, Some}
use Rattle.std.specs.Prelude.{if◌then◌else◌}
use Rattle.std.specs.Option.{option_map}
use Rattle.std.specs.List.{count_by, filter}
use Rattle.wf_names.specs.States.{is_held}
use Rattle.wf_names.specs.declared.states.StepState.TheVariants.{Free, Held}
use Rattle.wf_names.specs.declared.states.Phase.TheVariants.{Withdrawn}
use Rattle.case_record.specs.Cases.{CaseShape, finished_case, fresh_case, is_open, state_at}
use Rattle.case_record.specs.Cases.{with_phase, with_state}
use Rattle.grant_table.specs.declared.rows.Row.{Row}

-- the first element with a number
abbrev pub look_up : {X : Type 0} → (X → ℕ) → ℕ → List X → Option X
look_up number n [] = None
look_up number n (x ∷ xs) = if nat_eq (number x) n then Some x else look_up number n xs

-- the first element with a number changed, and every other element as it was
abbrev pub change_at : {X : Type 0} → (X → ℕ) → ℕ → (X → X) → List X → List X
change_at number n f [] = []
change_at number n f (x ∷ xs) =
    if nat_eq (number x) n then f x ∷ xs else x ∷ change_at number n f xs

-- the cases with their numbers and kept plans, ascending by number; how many were ever opened;
-- and how many more openings take no memory
pub record CasesShape : Type 0 where
  pub rows : List Row
  pub ever : ℕ
  pub spare : ℕ

-- the number of a row's case
abbrev pub number_of : Row → ℕ
number_of r = r.number

-- the row with a number
abbrev pub row_at : ℕ → List Row → Option Row
row_at n rows = look_up number_of n rows

-- the row with a number changed, and every other as it was
abbrev pub change_row : ℕ → (Row → Row) → List Row → List Row
change_row n f rows = change_at number_of n f rows

-- the case with a number, among rows
abbrev pub case_in : ℕ → List Row → Option CaseShape
case_in n rows = option_map (λ r. r.case) (row_at n rows)

-- the case with a number, in a table
abbrev pub case_at : CasesShape → ℕ → Option CaseShape
case_at t n = case_in n t.rows

-- the plan that a row keeps, if there is a row
abbrev pub plan_of : Option Row → Option (List ℕ)
plan_of None = None
plan_of (Some r) = r.plan

-- the plan that is kept for the case with a number
abbrev pub plan_at : CasesShape → ℕ → Option (List ℕ)
plan_at t n = plan_of (row_at n t.rows)

-- a row whose case is open
abbrev pub is_open_row : Row → Bool
is_open_row r = is_open r.case

-- how many cases are open
abbrev pub open_count : List Row → ℕ
open_count rows = count_by is_open_row rows

-- an open case counts for one
abbrev pub ones : Row → ℕ
ones r = cond (is_open r.case) 1 0

-- there is an open case
abbrev pub is_open_case : Option CaseShape → Bool
is_open_case None = false
is_open_case (Some c) = is_open c

-- a table with the row of one case changed, and all other cases and plans as they were
abbrev pub with_row : CasesShape → ℕ → (Row → Row) → CasesShape
with_row t n f = record t { rows = change_row n f t.rows }

-- a table with a fresh case at its next number
abbrev pub with_case : CasesShape → ℕ → ℕ → List ℕ → CasesShape
with_case t flow steps plan = record {
  rows = t.rows ++ record { number = t.ever; case = fresh_case flow steps; plan = Some plan } ∷ [];
  ever = t.ever + 1;
  spare = t.spare - 1;
}

-- a row with a free step given to a user, and the plan for it
abbrev pub held_row : ℕ → ℕ → List ℕ → Row → Row
held_row s u plan r = record r { case = with_state r.case s (Held u); plan = Some plan }

-- a plan, as long as its case is open
abbrev pub plan_while : Bool → Option (List ℕ) → Option (List ℕ)
plan_while is_kept plan = if is_kept then plan else None

-- a row with a held step finished
abbrev pub finished_row : ℕ → Row → Row
finished_row s r = record r {
  case = finished_case r.case s;
  plan =
      plan_while (is_open (finished_case r.case s)) r.plan;
}

-- a row with a held step free again
abbrev pub freed_row : ℕ → Row → Row
freed_row s r = record r { case = with_state r.case s Free }

-- a row with its case withdrawn
abbrev pub withdrawn_row : Row → Row
withdrawn_row r = record r { case = with_phase r.case Withdrawn; plan = None }

-- a row with another plan
abbrev pub replanned_row : List ℕ → Row → Row
replanned_row plan r = record r { plan = Some plan }

-- the rows with other plans for the open cases, in order, as far as there are plans
abbrev pub replanned : List Row → List (List ℕ) → List Row
replanned [] plans = []
replanned (r ∷ rs) [] = r ∷ rs
replanned (r ∷ rs) (plan ∷ plans) =
    if is_open_row r then replanned_row plan r ∷ replanned rs plans else r ∷ replanned rs
    (plan ∷ plans)

-- the case with a number alone
abbrev pub only : ℕ → List Row → List Row
only n rows = filter (λ r. nat_eq r.number n) rows

-- the open cases alone
abbrev pub open_rows : List Row → List Row
open_rows rows = filter is_open_row rows

-- an open case with a free step
pub record HasFreeStep (c : CaseShape) (s : ℕ) : Type 0 where
  pub open_case : is_open c ≡ true
  pub step : s < length c.states
  pub free : state_at c s ≡ Free

-- an open case with a held step
pub record HasHeldStep (c : CaseShape) (s : ℕ) : Type 0 where
  pub open_case : is_open c ≡ true
  pub held : is_held (state_at c s) ≡ true

-- the least open case not below a number
pub record IsNextOpen (t : CasesShape) (low n : ℕ) : Type 0 where
  pub known : low ≤ n
  pub open_case : is_open_case (case_at t n) ≡ true
  pub least : (m : ℕ) → low ≤ m → m < n → is_open_case (case_at t m) ≡ false

-- the same as a function, over ascending rows
abbrev pub next_open : ℕ → List Row → Option ℕ
next_open from_number [] = None
next_open from_number (r ∷ rs) = if nat_le from_number r.number &&
    is_open r.case then Some r.number else next_open from_number rs
