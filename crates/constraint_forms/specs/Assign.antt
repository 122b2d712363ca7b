-- Sets of steps, assignments and plans, as lists with a place for each step.
use Rattle.std.specs.Prelude.{◌≡◌, ◌<◌, ◌≤◌, ℕ, Bool, true, false, List, Option, None, slice_index}
use Rattle.std.specs.Prelude.{slice_index_or, replicate}
use Rattle.wf_names.specs.declared.limits.TheConstants.{STEP_LIMIT}

-- the user that an assignment gives to a step
abbrev pub user_at : List (Option ℕ) → ℕ → Option ℕ
user_at a s = slice_index_or a s None

-- the user that a plan gives to a step
abbrev pub planned : List ℕ → ℕ → ℕ
planned plan s = slice_index plan s

-- whether a step is in a set of steps
abbrev pub is_member : List Bool → ℕ → Bool
is_member group s = slice_index_or group s false

-- the set of no step
unfoldable pub no_steps : List Bool
no_steps = replicate STEP_LIMIT false

-- the assignment that gives no step to anybody
unfoldable pub no_users : List (Option ℕ)
no_users = replicate STEP_LIMIT None

-- the least step of a set from a number on
pub record IsNextStep (group : List Bool) (from s : ℕ) : Type 0 where
  pub within : s < STEP_LIMIT
  pub from_on : from ≤ s
  pub member : is_member group s ≡ true
  pub least : (t : ℕ) → from ≤ t → t < s → is_member group t ≡ false
