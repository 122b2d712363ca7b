use Rattle.trial_command.proofs.Ends.{all_trials}
use Rattle.trial_command.proofs.laws.trials_come_in_batches.Goals as goal

pub returns : goal.returns
returns c = all_trials
