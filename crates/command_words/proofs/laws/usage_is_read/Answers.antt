use Rattle.std.proofs.Common.{arith}
use Rattle.command_words.proofs.Usage.{cnf_read, model_read, plan_read, resilience_read, show_read, solve_read, trial_read}
use Rattle.command_words.proofs.laws.usage_is_read.Goals as goal

pub returns : goal.returns
returns c = grind (arith, plan_read, show_read, solve_read, resilience_read, cnf_read, model_read, trial_read)
