use Rattle.transcript_audit.proofs.Excludes.{next_is_one}
use Rattle.transcript_audit.proofs.laws.next_is_one.Goals as goal

pub returns : goal.returns
returns c = next_is_one c.entries_are_lines.ensures c.texts_are_lines.ensures
