use Rattle.std.proofs.Common.{arith}
use Rattle.grant_table.proofs.Places.{found_get, stands_place}
use Rattle.grant_table.proofs.rows.find.Goals as goal

pub returns-then-rows-at : goal.returns-then-rows-at
returns-then-rows-at c = grind (arith, stands_place, found_get)
