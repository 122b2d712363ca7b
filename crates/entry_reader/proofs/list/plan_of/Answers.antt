use Rattle.std.proofs.Common.{of_calls, arith}
use Rattle.std.proofs.lemmas.Grind.{common_steps}
use Rattle.entry_reader.specs.Values.{user_read}
use Rattle.entry_reader.proofs.list.plan_of.Goals as goal

pub returns-in_err-users : goal.returns-in_err-users
returns-in_err-users c = grind (arith, common_steps, c.in_err-users.ensures.read (user_read c.args.p.now) (λ v o said. search of_calls))

pub returns : goal.returns
returns c = grind (arith, common_steps, c.in_ok-users.ensures.read (user_read c.args.p.now) (λ v o said. search of_calls))

pub of-requires : goal.of-requires
of-requires c = grind (arith, common_steps, c.in_ok-users.ensures.few)
