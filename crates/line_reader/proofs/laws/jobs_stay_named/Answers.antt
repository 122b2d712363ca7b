use Rattle.line_reader.proofs.Named.{jobs_stay_named}
use Rattle.line_reader.proofs.laws.jobs_stay_named.Goals as goal

pub returns : goal.returns
returns c = jobs_stay_named
