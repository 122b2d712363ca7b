use Rattle.std.proofs.Common.{◌∙◌, ◌∷◌, [], ◌++◌, ap, sym}
use Rattle.trial_command.proofs.FlowFacts.{role_and_step, permits_more}
use Rattle.trial_command.proofs.steps.permits.Goals as goal

pub steps-preserved : goal.steps-preserved
steps-preserved c = c.in_ok-push.ensures.items ∙ ap (λ xs. xs ++ role_and_step c.steps.s ∷ []) c.steps.invariant ∙ sym (permits_more c.steps.s)
