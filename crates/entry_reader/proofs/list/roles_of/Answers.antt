use Rattle.std.proofs.Common.{of_calls}
use Rattle.entry_reader.specs.Values.{number_read}
use Rattle.entry_reader.proofs.list.roles_of.Goals as goal

pub returns : goal.returns
returns c = c.each_of.ensures (number_read c.args.p.now.roster.roles) (λ v o said. search of_calls)
