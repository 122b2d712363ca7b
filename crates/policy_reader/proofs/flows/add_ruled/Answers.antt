use Rattle.policy_reader.proofs.flows.add_ruled.Goals as goal

pub push_workflow-requires-clause-ruled : goal.push_workflow-requires-clause-ruled
push_workflow-requires-clause-ruled c = rw (← c.steps.ensures.names, ← c.relations.ensures.relations) c.in-Ok.ensures.sound
