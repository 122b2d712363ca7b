use Rattle.std.proofs.Common.{ap, length}
use Rattle.trial_command.proofs.FlowFacts.{sound_rules}
use Rattle.trial_command.proofs.policy.add_workflow.Goals as goal

pub add_flow-requires-clause-ruled : goal.add_flow-requires-clause-ruled
add_flow-requires-clause-ruled c =
    sound_rules _ _ _ (ap (λ f. length f.steps) c.in_ok-flow.ensures) c.requires.related c.in_ok-rules.ensures
