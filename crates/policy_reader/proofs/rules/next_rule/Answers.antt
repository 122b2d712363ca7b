use Rattle.policy_reader.proofs.RuleLists.{push_sound, on_ok}
use Rattle.policy_reader.proofs.rules.next_rule.Goals as goal

pub returns-in-Ok-clause-sound : goal.returns-in-Ok-clause-sound
returns-in-Ok-clause-sound c =
    on_ok c.push_rule.result _ _ c.push_rule.ensures.ok (λ e. rw e (push_sound _ _ c.args.rules.now c.in-Ok.rule c.requires.sound c.in-Ok.ensures.sound))
