use Rattle.std.proofs.Common.{arith}
use Rattle.clap.proofs.WalkLemmas.{one_text-rows}
use Rattle.command_words.proofs.Numbers.{number_read}
use Rattle.command_words.proofs.finding.number_in.Goals as goal

pub returns : goal.returns
returns c = grind (arith, one_text-rows, number_read)
