-- Cases, as contracts see them.
use Rattle.std.specs.Prelude.{ℕ, Bool, List, Option, map, replicate, slice_index_or, slice_set}
use Rattle.std.specs.Prelude.{if◌then◌else◌}
use Rattle.std.specs.List.{list_all}
use Rattle.wf_names.specs.States.{user_of, is_finished, is_live}
use Rattle.wf_names.specs.declared.states.StepState.{StepState}
use Rattle.wf_names.specs.declared.states.StepState.TheVariants.{Free, Held, Finished}
use Rattle.wf_names.specs.declared.states.Phase.{Phase}
use Rattle.wf_names.specs.declared.states.Phase.TheVariants.{Live, Done}
use Rattle.case_record.specs.Steps.{all_steps}

-- the workflow's number, where each step stands, and where the case stands
pub record CaseShape : Type 0 where
  pub flow : ℕ
  pub states : List StepState
  pub phase : Phase

-- a case of a number of steps that nobody has worked on
abbrev pub fresh_case : ℕ → ℕ → CaseShape
fresh_case flow steps = record { flow = flow; states = replicate steps Free; phase = Live }

-- where a step stands; a step that the case lacks is free
abbrev pub state_at : CaseShape → ℕ → StepState
state_at c s = slice_index_or c.states s Free

-- a case that is open
abbrev pub is_open : CaseShape → Bool
is_open c = is_live c.phase

-- the user of each step that is held or finished
abbrev pub assigned_of : CaseShape → List (Option ℕ)
assigned_of c = map user_of (all_steps c.states)

-- the steps that are finished
abbrev pub finished_of : CaseShape → List Bool
finished_of c = map is_finished (all_steps c.states)

-- a case with one step standing otherwise
abbrev pub with_state : CaseShape → ℕ → StepState → CaseShape
with_state c s state = record c { states = slice_set c.states s state }

-- a case in another phase
abbrev pub with_phase : CaseShape → Phase → CaseShape
with_phase c phase = record c { phase = phase }

-- a held step, finished by its holder
abbrev pub as_finished : StepState → StepState
as_finished Free = Free
as_finished (Held u) = Finished u
as_finished (Finished u) = Finished u

-- the phase of a case with these steps: done once each of them is finished
abbrev pub phase_after : List StepState → Phase → Phase
phase_after states phase = if list_all is_finished states then Done else phase

-- a case with a held step finished
abbrev pub finished_case : CaseShape → ℕ → CaseShape
finished_case c s =
    let states = slice_set c.states s (as_finished (state_at c s)) in
    record c { states = states; phase = phase_after states c.phase }
