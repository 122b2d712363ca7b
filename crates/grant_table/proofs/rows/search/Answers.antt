use Rattle.std.proofs.Common.{arith}
use Rattle.std.proofs.lemmas.List.{get_or_default}
use Rattle.grant_table.proofs.Places.{place_found, place_missing, found_get}
use Rattle.grant_table.proofs.rows.search.Goals as goal

pub returns-then-rows-i : goal.returns-then-rows-i
returns-then-rows-i c = grind (arith, place_found, found_get)

pub returns-else-i-rows : goal.returns-else-i-rows
returns-else-i-rows c = grind (arith, place_missing, get_or_default)
