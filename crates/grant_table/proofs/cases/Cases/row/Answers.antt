use Rattle.std.proofs.Common.{arith}
use Rattle.grant_table.proofs.Keeping.{planned_at}
use Rattle.grant_table.proofs.cases.Cases.row.Goals as goal

pub returns-clause-planned : goal.returns-clause-planned
returns-clause-planned c = grind (arith, planned_at)
