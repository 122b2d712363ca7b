use Rattle.policy_reader.proofs.Words.{length, ap, Err, is_count}
use Rattle.workflow_schema.proofs.Kept.{few_steps}
use Rattle.policy_reader.proofs.Orders.{cycle_found, no_cycle_found, cycle_within, no_cycle-ok, other_fault, refused}
use Rattle.policy_reader.proofs.workflows.make_flow.Goals as goal

pub returns-in-Ok-clause-cycle : goal.returns-in-Ok-clause-cycle
returns-in-Ok-clause-cycle c =
    let n = length c.args.steps.now.names in
    no_cycle-ok c.args.flow c.args.steps.now.names c.args.order.now
    (no_cycle_found c.order_is_chained.ensures.decided n c.args.order.now (few_steps n c.requires.counted) c.requires.within
    (λ s least. let e = (c.in-Ok.ensures.cycle s).1 (rw c.in_ok-names.ensures c.requires.counted, least) in cc))

pub flow_fault-requires-clause-known : goal.flow_fault-requires-clause-known
flow_fault-requires-clause-known c =
    other_fault (is_count (length c.in_ok-names.names.names)) c.in-Err.fault (rw c.in_ok-names.ensures c.requires.counted)
    (λ e. c.in-Err.ensures.too_many.0 (ap Err e)) (λ e. c.in-Err.ensures.single (ap Err e))

pub flow_fault-requires-clause-within : goal.flow_fault-requires-clause-within
flow_fault-requires-clause-within c s e =
    cycle_within (length c.args.steps.now.names) c.args.order.now s c.requires.within ((c.in-Err.ensures.cycle s).0 (ap Err e)).1

pub returns-in-Err-clause-cycle : goal.returns-in-Err-clause-cycle
returns-in-Err-clause-cycle c =
    let n = length c.args.steps.now.names in
    refused c.in-Err.fault c.flow_fault.result c.args.flow c.args.steps.now.names c.args.order.now
    (other_fault (is_count (length c.in_ok-names.names.names)) c.in-Err.fault (rw c.in_ok-names.ensures c.requires.counted)
    (λ e. c.in-Err.ensures.too_many.0 (ap Err e)) (λ e. c.in-Err.ensures.single (ap Err e)))
    c.flow_fault.ensures.cycle c.flow_fault.ensures.memory
    (λ s e. cycle_found c.order_is_chained.ensures.decided n c.args.order.now s (few_steps n c.requires.counted) c.requires.within
    ((c.in-Err.ensures.cycle s).0 (ap Err e)).1)
