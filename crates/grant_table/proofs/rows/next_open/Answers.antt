use Rattle.std.proofs.Common.{arith}
use Rattle.grant_table.proofs.Places.{later_ascend, later_next, next_ascend, next_passed, next_found}
use Rattle.grant_table.proofs.rows.next_open.Goals as goal

pub rows-init : goal.rows-init
rows-init c = grind (arith, later_ascend, later_next)

pub rows-preserved : goal.rows-preserved
rows-preserved c = grind (arith, next_ascend, next_passed)

pub returns-then-is_live : goal.returns-then-is_live
returns-then-is_live c = grind (arith, next_found)
