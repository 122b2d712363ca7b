use Rattle.std.proofs.Common.{◌≡◌, drop}
use Rattle.grant_table.specs.Cases.{next_open}
use Rattle.grant_table.specs.Kept.{AscendFrom}
use Rattle.grant_table.proofs.rows.next_open.Given as goal

abbrev pub invariant-rows : goal.invariant-rows
invariant-rows l = record {
  ascend : AscendFrom l.from (drop l.i l.rows);
  left : next_open l.from (drop l.i l.rows) ≡ next_open l.from l.rows;
}
