-- Inside: what views list of a part of the rows of a table of cases.
use Rattle.std.specs.Prelude.{◌≡◌, ℕ, Bool, true, false, List, [], ◌∷◌, ◌++◌, Option, None, Some}
use Rattle.std.specs.Prelude.{map}
use Rattle.policy_book.specs.Laws.Shapes.{PolicyShape}
use Rattle.policy_book.specs.Policies.{problem_of}
use Rattle.case_record.specs.Cases.{assigned_of, finished_of, is_open}
use Rattle.grant_table.specs.declared.rows.Row.{Row}
use Rattle.wf_talk.specs.declared.reply.WorkItem.{WorkItem}
use Rattle.wsp_solver.specs.Searches.{HasSolved}
use Rattle.wsp_solver.specs.declared.search.Outcome.{Outcome}
use Rattle.wsp_solver.specs.declared.search.Outcome.TheVariants as outcome
use Rattle.wf_board.specs.Boards.{numbered}
use Rattle.wf_board.specs.Laws.Kept.{IsOfPolicy, IsPlanned}
use Rattle.wf_board.specs.Laws.States.{Numbered, open_cases}
use Rattle.wf_board.specs.Views.{AreStranded, AreThose, IsGrantable, Place, item_of, steps_of}

-- the open cases of rows
abbrev pub open_in : List Row → List Numbered
open_in rows = open_cases (map numbered rows)

-- the items are those of the steps at `places` that would be granted to the user u, in order
abbrev pub AreGrantable : PolicyShape → ℕ → List Place → List WorkItem → Type 0
AreGrantable p u places items =
    AreThose (λ x. IsGrantable p x.of.case x.step u) (λ x. ¬ IsGrantable p x.of.case x.step u)
    item_of places items

-- the work of a user in the cases of rows
abbrev pub IsWorkIn : PolicyShape → ℕ → List Row → List WorkItem → Type 0
IsWorkIn p u rows items = AreGrantable p u (steps_of (open_in rows)) items

-- a step is listed behind others, if it would be granted
abbrev pub HasListed : PolicyShape → ℕ → Place → List WorkItem → List WorkItem → Type 0
HasListed p u place before after = (more : List WorkItem) ×
    ((after ≡ before ++ more) × AreGrantable p u (place ∷ []) more)

-- the numbers of the open cases of rows that cannot be completed under a policy
abbrev pub AreStrandedIn : PolicyShape → List Row → List ℕ → Type 0
AreStrandedIn p rows numbers = AreStranded p (open_in rows) numbers

-- the list of what there is
abbrev pub list_of : {A : Type 0} → Option A → List A
list_of None = []
list_of (Some x) = x ∷ []

-- what a changed policy leaves the case of a row, if it is open
abbrev pub IsLeftAt : PolicyShape → Row → Option Outcome → Type 0
IsLeftAt p r None = is_open r.case ≡ false
IsLeftAt p r (Some o) =
    (is_open r.case ≡ true) ×
    HasSolved (problem_of p r.case.flow) (assigned_of r.case) (finished_of r.case) o

-- what was found is a plan
abbrev pub is_plan : Outcome → Bool
is_plan (outcome.Plan plan) = true
is_plan (outcome.Refuted tree) = false

-- the case of a row is of the policy, and has a valid plan if it is open
pub record IsKeptRow (p : PolicyShape) (r : Row) : Type 0 where
  pub known : IsOfPolicy p r.case
  pub planned : IsPlanned p r.case r.plan
