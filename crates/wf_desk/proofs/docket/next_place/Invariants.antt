use Rattle.std.proofs.Common.{◌≡◌, take}
use Rattle.wf_board.specs.Laws.Histories.{lane_jobs}
use Rattle.wf_desk.proofs.docket.next_place.Given as goal

abbrev pub invariant-looking : goal.invariant-looking
invariant-looking l = lane_jobs l.lane (take l.place l.jobs) ≡ lane_jobs l.lane (take l.from l.jobs)
