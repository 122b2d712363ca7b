use Rattle.line_reader.proofs.Order.{jobs_are_in_order}
use Rattle.line_reader.proofs.laws.jobs_are_in_order.Goals as goal

pub returns : goal.returns
returns c = jobs_are_in_order c.args.lanes c.requires
