use Rattle.std.proofs.Common.{of_calls}
use Rattle.entry_reader.specs.Told.{item_read}
use Rattle.entry_reader.proofs.list.work_of.Goals as goal

pub returns : goal.returns
returns g c = c.each_of.ensures (item_read c.args.p.now (g.F.FlowOf.flows c.args.cases.now)) (λ v o said. search of_calls)
