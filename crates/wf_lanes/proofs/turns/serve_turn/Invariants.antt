use Rattle.wf_lanes.proofs.TurnLaws.{HasTurned}
use Rattle.wf_lanes.proofs.turns.serve_turn.Given as goal

abbrev pub invariant-turn : goal.invariant-turn
invariant-turn g l = record { turned : HasTurned l.fn.desk l.desk l.lane l.served }
