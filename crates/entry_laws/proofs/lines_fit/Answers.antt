use Rattle.entry_laws.proofs.Fitting.{lines_fit}
use Rattle.entry_laws.proofs.lines_fit.Goals as goal

pub returns : goal.returns
returns c = lines_fit
