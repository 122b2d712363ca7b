use Rattle.std.proofs.Common.{of_calls}
use Rattle.entry_reader.specs.Told.{number_of_case}
use Rattle.entry_reader.proofs.list.cases_of.Goals as goal

pub returns : goal.returns
returns c = c.each_of.ensures number_of_case (λ v o said. search of_calls)
