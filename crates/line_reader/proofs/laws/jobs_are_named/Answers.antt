use Rattle.line_reader.proofs.Named.{jobs_are_named}
use Rattle.line_reader.proofs.laws.jobs_are_named.Goals as goal

pub returns : goal.returns
returns c = jobs_are_named c.args.lanes
