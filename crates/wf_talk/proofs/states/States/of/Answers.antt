use Rattle.wf_names.proofs.PaddedLists.{put_first}
use Rattle.wf_names.specs.declared.limits.TheConstants.{STEP_LIMIT}
use Rattle.wf_names.specs.declared.states.StepState.TheVariants.{Free}
use Rattle.wf_talk.proofs.states.States.of.Goals as goal

pub invariant_of-result : goal.invariant_of-result
invariant_of-result c =
    rw c.copy_from_slice.ensures.after (put_first STEP_LIMIT Free c.args.states.now c.free_steps-cells.result c.free_steps-cells.ensures c.requires)
