use Rattle.wf_names.specs.declared.limits.TheConstants.{STEP_LIMIT}
use Rattle.constraint_forms.specs.Assign.{no_steps}
use Rattle.constraint_forms.proofs.Bits.{length-flags_of, flags_of-zero, none_of_zero}
use Rattle.constraint_forms.proofs.step_set.StepSet.empty.Goals as goal

pub returns-clause-value : goal.returns-clause-value
unfolding no_steps
returns-clause-value c = flags_of-zero STEP_LIMIT

pub returns-clause-none : goal.returns-clause-none
returns-clause-none c s = none_of_zero STEP_LIMIT s

pub returns-clause-len : goal.returns-clause-len
returns-clause-len c = length-flags_of STEP_LIMIT 0
