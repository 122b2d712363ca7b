use Rattle.policy_reader.proofs.Words.{arith, next_rule}
use Rattle.policy_reader.proofs.Loops.{each_more}
use Rattle.policy_reader.proofs.rules.all_rules.Goals as goal

pub items-preserved : goal.items-preserved
items-preserved c = (
  each_more (next_rule c.args.format c.args.scope.now.flow c.args.scope.now.relations.now c.args.scope.now.steps.now.names) c.items.rules
      c.next_rule.new.rules _ c.args.items.now c.items.value-index c.value-item.result c.items-test.true c.value-item.is c.items.invariant.0
      c.in_default.ensures.read,
  c.in_default.ensures.sound,
  omega (arith, c.in_default.ensures.count, c.items.invariant.2),
)
