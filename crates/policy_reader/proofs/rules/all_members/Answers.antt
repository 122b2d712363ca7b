use Rattle.policy_reader.proofs.Words.{next_member}
use Rattle.policy_reader.proofs.Loops.{each_more}
use Rattle.policy_reader.proofs.rules.all_members.Goals as goal

pub items-preserved : goal.items-preserved
items-preserved c = (
  each_more (next_member c.args.scope.now.flow c.args.scope.now.steps.now.names) c.items.group c.in-Ok.more _ c.args.items.now
      c.items.value-index c.value-item.result c.items-test.true c.value-item.is c.items.invariant.0 c.in-Ok.ensures.read,
  c.in-Ok.ensures.within,
  λ _. c.in-Ok.ensures.some,
)
