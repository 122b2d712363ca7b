use Rattle.transcript_audit.proofs.Excludes.{faults_exclude}
use Rattle.transcript_audit.proofs.laws.faults_exclude.Goals as goal

pub returns : goal.returns
returns c = faults_exclude c.entries_are_lines.ensures c.texts_are_lines.ensures
