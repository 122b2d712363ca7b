use Rattle.std.proofs.Common.{arith}
use Rattle.std.proofs.lemmas.Grind.{common_steps}
use Rattle.entry_reader.proofs.list.few_of.Goals as goal

pub returns-in_err-list-clause-read : goal.returns-in_err-list-clause-read
returns-in_err-list-clause-read g c = λ f reads. grind (arith, common_steps, c.in_err-list.ensures f reads)

pub returns-clause-read : goal.returns-clause-read
returns-clause-read g c = λ f reads. grind (arith, common_steps, c.in_ok-list.ensures f reads)
