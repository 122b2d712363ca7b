use Rattle.wf_desk.proofs.Scheduling.{grown_none}
use Rattle.wf_lanes.proofs.Turning.{closed_grown, first_room, whole_made}
use Rattle.wf_lanes.proofs.lanes.serve_on_lanes.Goals as goal

pub run_lanes-first-requires-clause-room : goal.run_lanes-first-requires-clause-room
run_lanes-first-requires-clause-room g c κs within = first_room _ _ c.args.desk _ c.in-Ok.ensures.first c.lanes-lanes.ensures.count

pub close_whole-requires-clause-whole : goal.close_whole-requires-clause-whole
close_whole-requires-clause-whole g c =
    whole_made _ _ c.run_lanes-first.result c.args.desk _ c.in-Ok.ensures.first c.lanes-lanes.ensures.count c.run_lanes-first.ensures.joined

pub returns-in-Ok : goal.returns-in-Ok
returns-in-Ok g c = record {
  on = closed_grown _ _ c.run_lanes-first.result c.args.desk c.close_whole.result _ c.in-Ok.ensures.first c.run_lanes-first.ensures.joined
      c.close_whole.ensures.fixed c.close_whole.ensures.list;
}

pub returns-in-Err : goal.returns-in-Err
returns-in-Err g c = record { on = grown_none c.args.desk _ c.in-Err.ensures.refused }
