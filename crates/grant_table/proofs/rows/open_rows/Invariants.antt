use Rattle.std.proofs.Common.{◌≡◌, take}
use Rattle.grant_table.specs.Cases.{open_rows}
use Rattle.grant_table.proofs.rows.open_rows.Given as goal

abbrev pub invariant-rows : goal.invariant-rows
invariant-rows l = l.some.items ≡ open_rows (take l.row-index l.rows)
