-- The state of a session.
use Rattle.std.specs.Prelude.{ℕ, ◌||◌, nat_le, Bool, List, [], Option, option_map}
use Rattle.std.specs.List.{count_by, filter}
use Rattle.wf_names.specs.Table.{place_of}
use Rattle.wf_names.specs.declared.limits.TheConstants.{OPEN_CASE_LIMIT, CASE_LIMIT}
use Rattle.policy_book.specs.Laws.Shapes.{PolicyShape}
use Rattle.policy_book.specs.Policies.{flow_at}
use Rattle.case_record.specs.Cases.{CaseShape, is_open}
use Rattle.grant_table.specs.Cases.{look_up, change_at}

-- a case with its number
pub record Numbered : Type 0 where
  pub number : ℕ
  pub case : CaseShape

-- what requests are judged by: the policy, cases at their numbers, and how many were ever opened; a
-- snapshot has some of the cases
pub record Book : Type 0 where
  pub policy : PolicyShape
  pub cases : List Numbered
  pub ever : ℕ

-- the state: all cases that were ever opened stand in its book, beside it stands how many edits
-- were accepted
pub record State : Type 0 where
  pub book : Book
  pub edits : ℕ

-- the state before the first request
abbrev pub opening_state : PolicyShape → State
opening_state p = record { book = record { policy = p; cases = []; ever = 0 }; edits = 0 }

-- the case with a number
abbrev pub numbered_case : List Numbered → ℕ → Option CaseShape
numbered_case cases n = option_map (λ e. e.case) (look_up (λ e. e.number) n cases)

-- the cases with the one at a number changed
abbrev pub with_case_changed : ℕ → (CaseShape → CaseShape) → List Numbered → List Numbered
with_case_changed n change cases =
    change_at (λ e. e.number) n (λ e. record e { case = change e.case }) cases

-- the workflow with a name
abbrev pub flow_named : Book → List ℕ → Option ℕ
flow_named b name = place_of b.policy.flow_names name

-- the step with a name, of a workflow
abbrev pub step_named : Book → ℕ → List ℕ → Option ℕ
step_named b f name = place_of (flow_at b.policy f).flow.steps name

-- the user with a name
abbrev pub user_named : Book → List ℕ → Option ℕ
user_named b name = place_of b.policy.roster.users name

-- the cases that are open
abbrev pub open_cases : List Numbered → List Numbered
open_cases cases = filter (λ e. is_open e.case) cases

-- how many cases are open
abbrev pub count_open : List Numbered → ℕ
count_open cases = count_by (λ e. is_open e.case) cases

-- no more cases can be opened
abbrev pub is_full : Book → Bool
is_full b = nat_le OPEN_CASE_LIMIT (count_open b.cases) || nat_le CASE_LIMIT b.ever
