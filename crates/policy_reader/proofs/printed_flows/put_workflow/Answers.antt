use Rattle.policy_reader.proofs.printed_flows.put_workflow.Goals as goal

pub rules_value-requires-clause-sound : goal.rules_value-requires-clause-sound
rules_value-requires-clause-sound c =
    rw (c.steps-steps.ensures.names, c.flow-flow.ensures.flow, c.relations-relations.ensures.relations, c.rules.ensures.rules) c.rules.ensures.ruled
