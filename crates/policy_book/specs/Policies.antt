-- What a policy says.
use Rattle.std.specs.Prelude.{◌≡◌, ℕ, zero, suc, Bool, false, ◌&&◌, ◌||◌, List, [], length, is_some}
use Rattle.std.specs.Prelude.{slice_index_or, slice_set}
use Rattle.std.specs.FinSet as set
use Rattle.wf_names.specs.Table.{place_of}
use Rattle.rbac_state.specs.Laws.Rosters.{RosterShape, has_role}
use Rattle.user_relations.specs.Laws.Relations.{is_related, with_kind, listed}
use Rattle.basics.specs.Laws.Pairs.{Pairs}
use Rattle.policy_book.specs.Laws.Shapes.{PolicyShape, WorkflowShape}
use Rattle.policy_book.specs.Laws.Plans.{Problem}

-- a workflow without steps, which stands where there is none
abbrev pub no_workflow : WorkflowShape
no_workflow = record {
  flow =
      record { steps = []; order = set.empty; permits = set.empty };
  rules = [];
  retired = false;
}

-- the workflow with a number
abbrev pub flow_at : PolicyShape → ℕ → WorkflowShape
flow_at p f = slice_index_or p.flows f no_workflow

-- a workflow that is added under this name gets this number: the next, and no other has the name
pub record IsNextFlow (p : PolicyShape) (name : List ℕ) (f : ℕ) : Type 0 where
  pub place : f ≡ length p.flows
  pub fresh : is_some (place_of p.flow_names name) ≡ false

-- some number below n passes
abbrev pub any_below : ℕ → (ℕ → Bool) → Bool
any_below zero test = false
any_below (suc n) test = any_below n test || test n

-- a user is authorised for a step where some role is held by the user and permitted for the step
abbrev pub is_authorised : PolicyShape → ℕ → ℕ → ℕ → Bool
is_authorised p f s u =
    any_below (length p.roster.roles)
    (λ r. has_role p.roster u r && set.contains (flow_at p f).flow.permits (r, s))

-- all that a policy says of one of its workflows
abbrev pub problem_of : PolicyShape → ℕ → Problem
problem_of p f = record {
  steps = length (flow_at p f).flow.steps;
  users = length p.roster.users;
  authorised = is_authorised p f;
  related = is_related p.relations;
  rules = (flow_at p f).rules;
}

-- a policy with another roster
abbrev pub with_roster : PolicyShape → RosterShape → PolicyShape
with_roster p roster = record p { roster = roster }

-- a policy with other pairs in one of its relations
abbrev pub with_pairs : PolicyShape → ℕ → Pairs → PolicyShape
with_pairs p rho pairs = record p { relations = with_kind p.relations rho (listed pairs) }

-- a policy with another workflow at a number
abbrev pub with_flow : PolicyShape → ℕ → WorkflowShape → PolicyShape
with_flow p f w = record p { flows = slice_set p.flows f w }

-- a policy with other permissions in one of its workflows
abbrev pub with_permits : PolicyShape → ℕ → Pairs → PolicyShape
with_permits p f permits = with_flow p f
    (record (flow_at p f) { flow = record (flow_at p f).flow { permits = permits } })
