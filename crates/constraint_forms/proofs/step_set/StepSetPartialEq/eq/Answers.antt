use Rattle.wf_names.specs.declared.limits.TheConstants.{STEP_LIMIT}
use Rattle.constraint_forms.proofs.Bits.{same_words}
use Rattle.constraint_forms.proofs.step_set.StepSetPartialEq.eq.Goals as goal

pub returns : goal.returns
returns c = same_words STEP_LIMIT _ _ _ _ c.eq.result c.t1-1.view_is c.t2-1.view_is c.t1-1.invariant c.t2-1.invariant c.eq.ensures
