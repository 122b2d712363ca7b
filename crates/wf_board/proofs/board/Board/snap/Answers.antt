use Rattle.std.proofs.Common.{sym, subst}
use Rattle.std.specs.Arc.{arc_value}
use Rattle.wf_board.specs.Laws.Kept.{ArePlanned}
use Rattle.wf_board.proofs.Planned.{planned_snap}
use Rattle.wf_board.proofs.board.Board.snap.Goals as goal

pub of-requires : goal.of-requires
of-requires c =
    let p = arc_value c.self.inside.policy in
    let planned = subst (λ t. ArePlanned p t.rows) (sym c.in_ok-cases.ensures) (planned_snap p c.self.inside.cases.rows c.args.ask.now c.self.invariant.0) in
    subst (λ q. ArePlanned q c.in_ok-cases.cases.rows) (sym c.in_ok-try_clone.ensures) planned
