use Rattle.wf_names.specs.declared.limits.TheConstants.{STEP_LIMIT}
use Rattle.constraint_forms.specs.Flags.{word_of-flags_of}
use Rattle.constraint_forms.proofs.step_set.StepSetHash.hash.Goals as goal

pub returns : goal.returns
returns g c = rw (← c.t1-1.view_is, word_of-flags_of STEP_LIMIT c.t1-1.inside.bits c.t1-1.invariant) c.hash.ensures
