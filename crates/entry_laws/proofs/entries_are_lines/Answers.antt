use Rattle.entry_laws.proofs.Entries.{entries_are_lines}
use Rattle.entry_laws.proofs.entries_are_lines.Goals as goal

pub returns : goal.returns
returns c = entries_are_lines
