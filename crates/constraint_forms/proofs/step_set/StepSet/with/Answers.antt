use Rattle.std.proofs.Common.{arith}
use Rattle.wf_names.specs.declared.limits.TheConstants.{STEP_LIMIT}
use Rattle.constraint_forms.proofs.Bits.{length-flags_of, set_fits, flags_of-with}
use Rattle.constraint_forms.proofs.step_set.StepSet.with.Goals as goal

pub invariant_of-result : goal.invariant_of-result
invariant_of-result c = grind (arith, set_fits)

pub returns-clause-value : goal.returns-clause-value
returns-clause-value c = grind (arith, flags_of-with)

pub returns-clause-len : goal.returns-clause-len
returns-clause-len c = rw (← c.self.view_is) (length-flags_of STEP_LIMIT c.self.inside.bits)
