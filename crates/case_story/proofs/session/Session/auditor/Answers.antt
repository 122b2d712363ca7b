use Rattle.wf_names.specs.declared.limits.TheConstants.{LANE_LIMIT}
use Rattle.line_reader.proofs.Order.{order_within}
use Rattle.case_story.proofs.session.Session.auditor.Goals as goal

pub know_session-requires-clause-order : goal.know_session-requires-clause-order
know_session-requires-clause-order c =
    order_within c.args.self.now.lanes LANE_LIMIT c.in_ok-batch.batch.jobs c.in_ok-batch.batch.ends c.requires.served.lanes
    (c.in_ok-batch.ensures.order c.requires.served.some)
