use Rattle.wf_commands.proofs.Endings.{told_ending, told_reads}
use Rattle.wf_commands.proofs.answer.AnyAnswers.answer.Goals as goal

pub returns-clause-ending : goal.returns-clause-ending
returns-clause-ending g c = told_ending c.tell.result c.tell.ensures.ending

pub returns-clause-reads : goal.returns-clause-reads
returns-clause-reads g c = told_reads c.tell.result _ c.tell.ensures.ending
