use Rattle.wf_desk.specs.Schedules.{HasGrown}
use Rattle.wf_lanes.proofs.lanes.serve_round.Given as goal

abbrev pub invariant-round : goal.invariant-round
invariant-round g l = record { grown : HasGrown l.fn.desk l.desk }
