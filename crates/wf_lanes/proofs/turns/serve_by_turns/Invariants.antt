use Rattle.wf_desk.specs.Desks.{AreOfLanes}
use Rattle.wf_lanes.specs.Turns.{left_at}
use Rattle.wf_lanes.proofs.TurnLaws.{HasServedTurns}
use Rattle.wf_lanes.proofs.turns.serve_by_turns.Given as goal

abbrev pub invariant-serving : goal.invariant-serving
invariant-serving g l = record { turns : HasServedTurns l.fn.desk l.desk; lanes : AreOfLanes l.desk.lanes l.desk.jobs }

abbrev pub decreases-serving : goal.decreases-serving
decreases-serving g l = left_at l.desk
