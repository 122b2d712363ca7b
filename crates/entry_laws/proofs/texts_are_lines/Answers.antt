use Rattle.entry_laws.proofs.Texts.{texts_are_lines}
use Rattle.entry_laws.proofs.texts_are_lines.Goals as goal

pub returns : goal.returns
returns c = texts_are_lines
