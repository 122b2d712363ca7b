use Rattle.policy_reader.proofs.Words.{◌∙◌, arith, next_name, Flows}
use Rattle.policy_reader.proofs.Loops.{each_more}
use Rattle.policy_reader.proofs.workflows.all_steps.Goals as goal

pub items-preserved : goal.items-preserved
items-preserved c = (
  each_more (next_name Flows c.args.flow) c.items.steps.names c.next_name.new.names.names _ c.args.items.now
      c.items.value-index c.value-item.result c.items-test.true c.value-item.is c.items.invariant.0 c.in_default.ensures.read,
  c.in_default.ensures.limit ∙ c.items.invariant.1,
  omega (arith, c.in_default.ensures.count, c.items.invariant.2),
)
