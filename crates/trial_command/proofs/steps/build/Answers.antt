use Rattle.std.proofs.Common.{◌∙◌, ap, Err}
use Rattle.trial_command.proofs.FlowFacts.{flow_is, no_cycle_in}
use Rattle.trial_command.proofs.steps.build.Goals as goal

pub returns-in-Ok : goal.returns-in-Ok
returns-in-Ok c = c.in-Ok.ensures.built ∙ flow_is _ _ _ c.requires.steps c.requires.order c.requires.permits

pub unreachable-requires-in-Err-Cycle : goal.unreachable-requires-in-Err-Cycle
unreachable-requires-in-Err-Cycle c =
    let fault = (c.build.ensures.cycle c.in-Err-Cycle.field-0-0).0 (c.in-Err-Cycle.is ∙ ap Err c.in-Err-Cycle.field-0-is) in
    no_cycle_in _ c.in-Err-Cycle.field-0-0 c.requires.order fault.2
