use Rattle.policy_reader.proofs.Alike.{old_format_reads_alike}
use Rattle.policy_reader.proofs.laws.old_format_reads_alike.Goals as goal

pub returns : goal.returns
returns c = old_format_reads_alike
