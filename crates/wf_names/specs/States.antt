-- Where a case and its steps stand.
use Rattle.std.specs.Prelude.{ℕ, Bool, true, false, Option, Some, None}
use Rattle.wf_names.specs.declared.states.StepState.{StepState}
use Rattle.wf_names.specs.declared.states.StepState.TheVariants.{Free, Held, Finished}
use Rattle.wf_names.specs.declared.states.Phase.{Phase}
use Rattle.wf_names.specs.declared.states.Phase.TheVariants.{Live, Done, Withdrawn}

-- the user who holds or finished a step
abbrev pub user_of : StepState → Option ℕ
user_of Free = None
user_of (Held u) = Some u
user_of (Finished u) = Some u

-- a step that a user has and has not finished
abbrev pub is_held : StepState → Bool
is_held Free = false
is_held (Held u) = true
is_held (Finished u) = false

-- a step that is finished
abbrev pub is_finished : StepState → Bool
is_finished Free = false
is_finished (Held u) = false
is_finished (Finished u) = true

-- the phase of a case that is open
abbrev pub is_live : Phase → Bool
is_live Live = true
is_live Done = false
is_live Withdrawn = false

-- the phase of a case whose every step is finished
abbrev pub is_done : Phase → Bool
is_done Live = false
is_done Done = true
is_done Withdrawn = false
