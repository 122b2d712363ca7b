-- What stands at each step below the limit of steps.
use Rattle.std.specs.Prelude.{List}
use Rattle.wf_names.specs.declared.limits.TheConstants.{STEP_LIMIT}
use Rattle.wf_names.specs.declared.states.StepState.{StepState}
use Rattle.wf_names.specs.declared.states.StepState.TheVariants.{Free}
use Rattle.wf_names.specs.Padded.{padded}

-- where every step below the limit of steps stands: a step that the case lacks is free
abbrev pub all_steps : List StepState → List StepState
all_steps states = padded STEP_LIMIT Free states
