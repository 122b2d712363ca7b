use Rattle.wf_names.specs.declared.limits.TheConstants.{LANE_LIMIT}
use Rattle.line_reader.proofs.Order.{order_within}
use Rattle.transcript_commands.proofs.jobs_file.load_jobs.Goals as goal

pub returns-clause-order : goal.returns-clause-order
returns-clause-order g c = order_within
    c.args.lanes LANE_LIMIT c.in_ok-jobs_of.field-0.jobs c.in_ok-jobs_of.field-0.ends c.requires.lanes (c.in_ok-jobs_of.ensures.order c.requires.some)
