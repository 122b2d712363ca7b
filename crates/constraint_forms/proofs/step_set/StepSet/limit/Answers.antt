use Rattle.wf_names.specs.declared.limits.TheConstants.{STEP_LIMIT}
use Rattle.constraint_forms.proofs.Bits.{length-flags_of}
use Rattle.constraint_forms.proofs.step_set.StepSet.limit.Goals as goal

pub returns-clause-len : goal.returns-clause-len
returns-clause-len c = rw (← c.self.view_is) (length-flags_of STEP_LIMIT c.self.inside.bits)
