use Rattle.wf_desk.specs.Schedules.{HasGrown}
use Rattle.wf_lanes.proofs.lanes.serve_rounds.Given as goal

abbrev pub invariant-rounds : goal.invariant-rounds
invariant-rounds g l = record { grown : HasGrown l.fn.desk l.desk }
