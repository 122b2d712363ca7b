use Rattle.std.proofs.Common.{arith}
use Rattle.workflow_schema.proofs.Kept.{tells_chains}
use Rattle.workflow_schema.proofs.flow.Flow.before.Goals as goal

pub returns-clause-chain : goal.returns-clause-chain
returns-clause-chain c = grind (arith, tells_chains)
