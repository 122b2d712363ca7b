use Rattle.trial_command.proofs.Growing.{ends_step}
use Rattle.trial_command.proofs.jobs.batch_ends.Goals as goal

pub batches-preserved : goal.batches-preserved
batches-preserved c = ends_step _ _ c.args.first c.batches.batch c.in_ok-add-2.ensures.added c.batches.invariant
