-- What is kept in every state of a session.
use Rattle.std.specs.Prelude.{◌≡◌, ℕ, ◌+◌, ◌<◌, true, false, List, [], ◌∷◌, length, Option, None}
use Rattle.std.specs.Prelude.{Some, is_some}
use Rattle.policy_book.specs.Laws.Shapes.{PolicyShape}
use Rattle.policy_book.specs.Laws.Facts.{IsSoundPolicy}
use Rattle.policy_book.specs.Policies.{flow_at, problem_of}
use Rattle.policy_book.specs.Laws.Plans.{IsCompletable, IsValidPlan, IsWithin}
use Rattle.case_record.specs.Cases.{CaseShape, assigned_of, finished_of, is_open}
use Rattle.grant_table.specs.declared.rows.Row.{Row}
use Rattle.grant_table.specs.Cases.{case_in}
use Rattle.wf_board.specs.Laws.States.{Numbered, State, numbered_case}

-- a case is of a workflow of the policy, has its steps, and gives them to users of the policy
pub record IsOfPolicy (p : PolicyShape) (c : CaseShape) : Type 0 where
  pub flow : c.flow < length p.flows
  pub steps : length c.states ≡ length (flow_at p c.flow).flow.steps
  pub users : IsWithin (problem_of p c.flow) (assigned_of c)

-- the state is of one policy: each case is of one of its workflows
pub record IsSoundState (s : State) : Type 0 where
  pub policy : IsSoundPolicy s.book.policy
  pub cases : (n : ℕ) (c : CaseShape) → numbered_case s.book.cases n ≡ Some c →
      IsOfPolicy s.book.policy c

-- each open case has a valid plan
abbrev pub KeepsCompletable : State → Type 0
KeepsCompletable s =
    (n : ℕ) (c : CaseShape) → numbered_case s.book.cases n ≡ Some c → is_open c ≡ true →
    IsCompletable (problem_of s.book.policy c.flow) (assigned_of c) (finished_of c)

-- cases are numbered in order, from a number on
abbrev pub AreNumberedFrom : ℕ → List Numbered → Type 0
AreNumberedFrom n [] = Unit {0}
AreNumberedFrom n (e ∷ es) = (e.number ≡ n) × AreNumberedFrom (n + 1) es

-- the cases of a state are numbered 0, 1, 2 .. in order, and the next one gets the count of them
pub record AreCasesNumbered (s : State) : Type 0 where
  pub order : AreNumberedFrom 0 s.book.cases
  pub next : s.book.ever ≡ length s.book.cases

-- P holds of each of these rows
abbrev pub EachRow : (Row → Type 0) → List Row → Type 0
EachRow P [] = Unit {0}
EachRow P (r ∷ rs) = P r × EachRow P rs

-- a case is not open, or the plan that is kept for it is valid
abbrev pub IsPlanned : PolicyShape → CaseShape → Option (List ℕ) → Type 0
IsPlanned p c None = is_open c ≡ false
IsPlanned p c (Some plan) = IsValidPlan (problem_of p c.flow) (assigned_of c) (finished_of c) plan

-- the cases are of the policy's workflows, and each open one has a valid plan
pub record ArePlanned (p : PolicyShape) (rows : List Row) : Type 0 where
  pub cases : EachRow (λ r. IsOfPolicy p r.case) rows
  pub plans : EachRow (λ r. IsPlanned p r.case r.plan) rows

-- there is a case at each number below the next
abbrev pub AreNumbered : List Row → ℕ → Type 0
AreNumbered rows ever = (n : ℕ) → n < ever → is_some (case_in n rows) ≡ true
