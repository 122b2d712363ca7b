use Rattle.std.proofs.Common.{arith}
use Rattle.std.proofs.lemmas.Fmt.{decimal_digit}
use Rattle.command_words.proofs.arguments.argument.Goals as goal

pub returns-in-Lanes-clause-rule : goal.returns-in-Lanes-clause-rule
returns-in-Lanes-clause-rule c = grind (arith, decimal_digit)

pub returns-in-Rounds-clause-rule : goal.returns-in-Rounds-clause-rule
returns-in-Rounds-clause-rule c = grind (arith, decimal_digit)
