use Rattle.std.proofs.Common.{◌<◌, arith}
use Rattle.std.proofs.lemmas.Grind.{common_steps}
use denote.Param.Send.{sendable}
use Rattle.wf_lanes.proofs.Crossing.{desk_lane_send, errand_send}
use Rattle.wf_lanes.proofs.Turning.{one_joined}
use Rattle.wf_lanes.proofs.lanes.+fn-run_lanes-join+arg3+run_lanes.Goals as goal

pub join-lane-requires-send-F : goal.join-lane-requires-send-F
join-lane-requires-send-F g t c κs within = search (sendable, errand_send) depth 20

pub join-lane-requires-send-A : goal.join-lane-requires-send-A
join-lane-requires-send-A g t c κs within = search (sendable, desk_lane_send) depth 20

pub returns-then-not-needs_thread-clause-joined : goal.returns-then-not-needs_thread-clause-joined
returns-then-not-needs_thread-clause-joined g t c =
    let some : 0 < c.args.count = grind (arith, common_steps, c.if-count-eq0.false) in
    one_joined c.args.table.now c.args.first c.make_lane-lane.new.first c.run_lanes-all.result c.join.new.into c.serve-lane.result c.args.next c.args.count
    some c.make_lane-lane.ensures.made c.run_lanes-all.ensures.joined c.serve-lane.ensures.idle c.join.ensures.into c.join.ensures.begins.0
    c.join.ensures.counted c.join.ensures.kept

pub returns-clause-joined : goal.returns-clause-joined
returns-clause-joined g t c =
    let some : 0 < c.args.count = grind (arith, common_steps, c.if-count-eq0.false) in
    one_joined c.args.table.now c.args.first c.make_lane-lane.new.first c.join-lane.result.1 c.join-2.new.into c.join-lane.result.0 c.args.next c.args.count
    some c.make_lane-lane.ensures.made c.join-lane.ensures.second.1 c.join-lane.ensures.first c.join-2.ensures.into c.join-2.ensures.begins.0
    c.join-2.ensures.counted c.join-2.ensures.kept
