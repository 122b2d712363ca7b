use Rattle.wf_names.specs.declared.limits.TheConstants.{LANE_LIMIT}
use Rattle.line_reader.proofs.Order.{order_within}
use Rattle.transcript_commands.proofs.resumed.resume.Goals as goal

pub take_up-requires-clause-order : goal.take_up-requires-clause-order
take_up-requires-clause-order g c =
    order_within c.args.lanes LANE_LIMIT c.args.batch.jobs c.args.batch.ends c.requires.within.few_lanes c.requires.order
