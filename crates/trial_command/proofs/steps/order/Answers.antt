use Rattle.std.proofs.Common.{◌∙◌, ◌∷◌, [], ◌++◌, ap, sym}
use Rattle.trial_command.proofs.FlowFacts.{pair_up, order_more}
use Rattle.trial_command.proofs.steps.order.Goals as goal

pub steps-preserved : goal.steps-preserved
steps-preserved c = c.in_ok-push.ensures.items ∙ ap (λ xs. xs ++ pair_up c.steps.s ∷ []) c.steps.invariant ∙ sym (order_more c.steps.s)
