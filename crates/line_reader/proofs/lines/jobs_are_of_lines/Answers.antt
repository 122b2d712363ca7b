use Rattle.line_reader.proofs.LineJobs.{jobs_are_of_lines}
use Rattle.line_reader.proofs.lines.jobs_are_of_lines.Goals as goal

pub returns : goal.returns
returns c = jobs_are_of_lines c.args.lanes c.args.first c.requires
