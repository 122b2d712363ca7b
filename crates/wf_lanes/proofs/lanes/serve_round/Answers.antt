use Rattle.std.proofs.Common.{true}
use Rattle.wf_lanes.proofs.Ahead.{grown_same, grown_taken}
use Rattle.wf_lanes.proofs.lanes.serve_round.Goals as goal

pub round-init : goal.round-init
round-init g c = record { grown = grown_same c.args.desk.now }

pub round-preserved : goal.round-preserved
round-preserved g c = record {
  grown =
      grown_taken true c.args.desk.now c.round.desk c.take_up.new.self c.round.lane c.take_up.result c.round.invariant.grown c.take_up.ensures;
}
