use Rattle.std.proofs.Common.{◌<◌, sym, subst}
use Rattle.wf_desk.proofs.Scheduling.{grown_then}
use Rattle.wf_lanes.proofs.lanes.serve_by_lanes.Goals as goal

pub serve_on_lanes-desk-requires-clause-some : goal.serve_on_lanes-desk-requires-clause-some
serve_on_lanes-desk-requires-clause-some g c κs within = subst (λ n. 0 < n) (sym c.serve_ahead.ensures.lanes) c.requires.some

pub serve_by_turns-requires-clause-lanes : goal.serve_by_turns-requires-clause-lanes
serve_by_turns-requires-clause-lanes g c =
    let grown = grown_then c.args.desk _ _ c.serve_ahead.ensures c.serve_on_lanes-desk.ensures.on in
    rw (grown.lanes, grown.jobs) c.requires.lanes

pub returns-clause-on : goal.returns-clause-on
returns-clause-on g c =
    grown_then c.args.desk _ _ (grown_then c.args.desk _ _ c.serve_ahead.ensures c.serve_on_lanes-desk.ensures.on) c.serve_by_turns.ensures.turns.on.grown

pub returns-clause-done : goal.returns-clause-done
returns-clause-done g c = c.serve_by_turns.ensures.done
