use Rattle.wf_desk.proofs.Resuming.{more_lanes}
use Rattle.wf_desk.proofs.desk.Desk.resume_batch.Goals as goal

pub places_after-places-requires-clause-lanes : goal.places_after-places-requires-clause-lanes
places_after-places-requires-clause-lanes c =
    more_lanes _ _ c.args.jobs.now c.self.invariant.desk.few (rw (← c.self.view_is) at c.requires.lanes)
