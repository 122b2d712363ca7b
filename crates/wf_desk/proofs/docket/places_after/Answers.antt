use Rattle.wf_desk.proofs.Resuming.{lane_known, moved_on, place_within}
use Rattle.wf_desk.proofs.docket.places_after.Goals as goal

pub go_on-requires-clause-known : goal.go_on-requires-clause-known
go_on-requires-clause-known c =
    lane_known c.args.jobs.now c.args.entries.now c.answered.entry-index c.entry-item.result c.requires.lanes c.requires.first c.answered-test.true
    c.entry-item.is

pub go_on-requires-clause-here : goal.go_on-requires-clause-here
go_on-requires-clause-here c =
    place_within c.args.jobs.now c.args.entries.now c.answered.entry-index c.entry-item.result c.answered.places c.requires.lanes c.requires.first
    c.answered-test.true c.entry-item.is
    c.answered.invariant.1

pub answered-preserved : goal.answered-preserved
answered-preserved c = (
  c.go_on.array_long,
  moved_on c.args.jobs.now c.args.entries.now c.answered.entry-index c.entry-item.result c.answered.places c.go_on.new.places c.requires.lanes
      c.requires.first c.answered-test.true c.entry-item.is
      c.answered.invariant.1 c.go_on.ensures.sized c.go_on.ensures.moved,
)
