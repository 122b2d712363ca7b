use Rattle.std.proofs.Common.{◌≡◌, take}
use Rattle.grant_table.specs.Cases.{open_count}
use Rattle.grant_table.proofs.rows.past_ended.Given as goal

abbrev pub invariant-passing : goal.invariant-passing
invariant-passing l = open_count (take l.i l.rows) ≡ 0
