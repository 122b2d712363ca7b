use Rattle.std.proofs.Common.{◌<◌, length, length-set, ◌∙◌, arith}
use Rattle.wf_desk.proofs.DeskLaws.{places_more}
use Rattle.wf_desk.proofs.docket.first_places.Goals as goal

pub lanes-preserved : goal.lanes-preserved
lanes-preserved c =
    let size = c.lanes.invariant.0 in
    let sized : c.lanes.lane < length c.lanes.places = omega (arith, size) in (
      length-set c.lanes.places c.lanes.lane c.next_place.result ∙ size,
      places_more c.args.jobs.now c.lanes.places c.lanes.lane c.next_place.result sized c.lanes.invariant.1 c.next_place.ensures,
    )
