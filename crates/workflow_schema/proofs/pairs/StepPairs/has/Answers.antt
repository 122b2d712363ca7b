use Rattle.std.proofs.Common.{arith}
use Rattle.workflow_schema.proofs.TableSets.{pairs_in-has}
use Rattle.workflow_schema.proofs.pairs.StepPairs.has.Goals as goal

pub returns : goal.returns
returns c = grind (arith, pairs_in-has)
