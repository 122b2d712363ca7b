use Rattle.std.proofs.Common.{arith}
use Rattle.workflow_schema.proofs.TableSets.{permitted_by-has}
use Rattle.workflow_schema.proofs.flow.Flow.permits.Goals as goal

pub returns : goal.returns
returns c = grind (arith, permitted_by-has)
