use Rattle.std.proofs.Common.{arith}
use Rattle.wf_desk.proofs.DeskLaws.{desk_small}
use Rattle.wf_desk.proofs.desk.Desk.number.Goals as goal

pub overflow_cast-result : goal.overflow_cast-result
overflow_cast-result c =
    let small = desk_small _ _ c.self.invariant.desk in
    let len = c.len.ensures in
    omega (arith, small, len)
