use Rattle.std.proofs.Common.{arith}
use Rattle.grant_table.proofs.Passed.{ascend_passed, next_open_passed}
use Rattle.grant_table.proofs.rows.next_behind.Goals as goal

pub next_open-requires : goal.next_open-requires
next_open-requires c = rw c.behind.ensures (ascend_passed 0 c.args.first c.args.rows.now c.requires.order)

pub returns : goal.returns
returns c = grind (arith, next_open_passed)
