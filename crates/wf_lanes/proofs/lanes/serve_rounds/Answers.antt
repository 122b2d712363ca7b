use Rattle.wf_desk.proofs.Scheduling.{grown_then}
use Rattle.wf_lanes.proofs.Ahead.{grown_same}
use Rattle.wf_lanes.proofs.lanes.serve_rounds.Goals as goal

pub rounds-init : goal.rounds-init
rounds-init g c = record { grown = grown_same c.args.desk.now }

pub rounds-preserved : goal.rounds-preserved
rounds-preserved g c = record { grown = grown_then c.args.desk.now c.rounds.desk c.serve_round.new.desk c.rounds.invariant.grown c.serve_round.ensures }
