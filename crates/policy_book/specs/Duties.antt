-- Who is authorised for what, as a policy keeps it for each workflow.
use Rattle.std.specs.Prelude.{◌≡◌, ℕ, zero, suc, ◌<◌, ◌≤◌, Bool, true, ◌&&◌, ◌==◌, List, [], length}
use Rattle.std.specs.Prelude.{refl, if◌then◌else◌, slice_index_or, slice_set}
use Rattle.std.specs.Coded.{Coded, code_by, coded×, coded_list, coded_ℕ}
use Rattle.std.specs.FinSet as set
use Rattle.wf_names.specs.Table.{Table}
use Rattle.wf_names.specs.UserSets.{has_user}
use Rattle.rbac_state.specs.Laws.Rosters.{RosterShape, has_role}
use Rattle.user_relations.specs.Laws.Relations.{RelationShape}
use Rattle.workflow_schema.specs.Flows.{FlowShape}
use Rattle.constraint_forms.specs.Assign.{no_steps}
use Rattle.policy_book.specs.Laws.Shapes.{WorkflowShape}
use Rattle.policy_book.specs.Policies.{any_below, no_workflow}
use Rattle.policy_book.specs.Laws.Plans.{Problem}
use Rattle.policy_book.specs.Stored.{IsStoredPolicy}

-- the steps below n that pass a test
abbrev pub steps_below : ℕ → (ℕ → Bool) → List Bool
steps_below zero test = no_steps
steps_below (suc n) test =
    if test n then slice_set (steps_below n test) n true else steps_below n test

-- the steps for which a user is authorised
abbrev pub authorised_steps : Problem → ℕ → List Bool
authorised_steps p u = steps_below p.steps (λ s. p.authorised s u)

-- inside: what is kept of one workflow: a row of users for each step, and for how many users the
-- sets of their steps are kept beside
pub record DutyShape : Type 0 where
  pub rows : List (List ℕ)
  pub users : ℕ

-- by which values that hold duties are told apart
abbrev pub duty_code : Coded DutyShape
duty_code = code_by (List (List ℕ) × ℕ) (coded× (coded_list (coded_list coded_ℕ)) coded_ℕ)
    (λ d. (d.rows, d.users)) (λ p. record { rows = p.0; users = p.1 }) (λ _. refl)

-- the row of a step has a user
abbrev pub row_has : List (List ℕ) → ℕ → ℕ → Bool
row_has rows s u = has_user (slice_index_or rows s []) u

-- the steps in whose rows a user is
abbrev pub steps_in : List (List ℕ) → ℕ → List Bool
steps_in rows u = steps_below (length rows) (λ s. row_has rows s u)

-- the set at a user's place
abbrev pub set_at : List (List Bool) → ℕ → List Bool
set_at sets u = slice_index_or sets u no_steps

-- the set of each user has the steps in whose rows the user is
abbrev pub AreGathered : List (List ℕ) → List (List Bool) → Type 0
AreGathered rows sets = (u : ℕ) → u < length sets → set_at sets u ≡ steps_in rows u

-- some role is held by a user and permitted for a step
abbrev pub may_do : RosterShape → FlowShape → ℕ → ℕ → Bool
may_do roster flow s u = any_below (length roster.roles)
    (λ r. has_role roster u r && set.contains flow.permits (r, s))

-- each step has its row, with the users who are authorised, and no user is left out of the sets
pub record AreDuties (roster : RosterShape) (flow : FlowShape) (d : DutyShape) : Type 0 where
  pub count : length d.rows ≡ length flow.steps
  pub each : (s u : ℕ) → s < length d.rows → row_has d.rows s u ≡ may_do roster flow s u
  pub users : length roster.users ≤ d.users

-- of a workflow that is not there nothing is kept
abbrev pub no_duties : DutyShape
no_duties = record { rows = []; users = 0 }

-- what is kept of the workflow with a number
abbrev pub duties_at : List DutyShape → ℕ → DutyShape
duties_at duties f = slice_index_or duties f no_duties

-- what is kept of each workflow is right
pub record AreKept (roster : RosterShape) (flows : List WorkflowShape)
    (duties : List DutyShape) : Type 0 where
  pub count : length duties ≡ length flows
  pub each : (f : ℕ) → f < length flows →
      AreDuties roster (slice_index_or flows f no_workflow).flow (duties_at duties f)

-- the parts are those of a policy, and so is what is kept beside
pub record IsBook (roster : RosterShape) (relations : List RelationShape) (names : Table)
    (flows : List WorkflowShape) (admin : ℕ) (duties : List DutyShape) : Type 0 where
  pub stored : IsStoredPolicy roster relations names flows admin
  pub kept : AreKept roster flows duties

-- a user's bits are right again in the rows of the steps that a role is permitted for, and else
-- nothing has changed
pub record IsSettled (roster : RosterShape) (flow : FlowShape) (u r : ℕ)
    (before after : List (List ℕ)) : Type 0 where
  pub count : length after ≡ length before
  pub each : (s v : ℕ) → s < length before → row_has after s v ≡ (if v == u &&
      set.contains flow.permits (r, s) then may_do roster flow s v else row_has before s v)

-- the same of each workflow
pub record AreSettled (roster : RosterShape) (flows : List WorkflowShape) (u r : ℕ)
    (before after : List DutyShape) : Type 0 where
  pub count : length after ≡ length before
  pub users : (f : ℕ) → (duties_at after f).users ≡ (duties_at before f).users
  pub each : (f : ℕ) → f < length flows →
      IsSettled roster (slice_index_or flows f no_workflow).flow u r (duties_at before f).rows
      (duties_at after f).rows

-- the same rows stand beside as many sets or more
pub record AreGrown (before after : List DutyShape) : Type 0 where
  pub count : length after ≡ length before
  pub rows : (f : ℕ) → (duties_at after f).rows ≡ (duties_at before f).rows
  pub users : (f : ℕ) → (duties_at before f).users ≤ (duties_at after f).users
