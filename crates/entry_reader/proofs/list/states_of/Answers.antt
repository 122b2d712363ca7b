use Rattle.std.proofs.Common.{of_calls, arith}
use Rattle.std.proofs.lemmas.Grind.{common_steps}
use Rattle.entry_reader.specs.Values.{seen_read}
use Rattle.entry_reader.proofs.list.states_of.Goals as goal

pub returns-in_err-states : goal.returns-in_err-states
returns-in_err-states c = grind (arith, common_steps, c.in_err-states.ensures.read (seen_read c.args.p.now) (λ v o said. search of_calls))

pub returns : goal.returns
returns c = grind (arith, common_steps, c.in_ok-states.ensures.read (seen_read c.args.p.now) (λ v o said. search of_calls))

pub of-requires : goal.of-requires
of-requires c = grind (arith, common_steps, c.in_ok-states.ensures.few)
