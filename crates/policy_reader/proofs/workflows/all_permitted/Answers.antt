use Rattle.policy_reader.proofs.Words.{◌∙◌, next_permitted}
use Rattle.policy_reader.proofs.Loops.{each_more}
use Rattle.policy_reader.proofs.workflows.all_permitted.Goals as goal

pub items-preserved : goal.items-preserved
items-preserved c = (
  each_more (next_permitted c.args.roles.now.flow c.args.roles.now.names.now.names c.args.s) c.items.made c.next_permitted.new.made _ c.args.items.now
      c.items.value-index c.value-item.result c.items-test.true c.value-item.is c.items.invariant.0 c.in_default.ensures.read,
  record { steps = c.in_default.ensures.kept.steps ∙ c.items.invariant.1.steps; roles = c.in_default.ensures.kept.roles },
)
