use Rattle.entry_laws.proofs.Long.{trees_fit_lines}
use Rattle.entry_laws.proofs.trees_fit_lines.Goals as goal

pub returns : goal.returns
returns c = trees_fit_lines
