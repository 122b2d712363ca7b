use Rattle.policy_reader.proofs.Counts.{count_entries}
use Rattle.policy_reader.proofs.parts.table_of.Goals as goal

pub returns-in-Some-clause-count : goal.returns-in-Some-clause-count
returns-in-Some-clause-count c = count_entries c.in-Some.members.now.entries
