use Rattle.std.proofs.Common.{arith}
use Rattle.command_words.proofs.NoCommand.{no_command}
use Rattle.command_words.proofs.forms.Form.named.Goals as goal

pub returns-in_default : goal.returns-in_default
returns-in_default c words = grind (arith, no_command)
