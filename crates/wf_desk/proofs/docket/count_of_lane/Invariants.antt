use Rattle.std.proofs.Common.{◌≡◌, ◌≤◌, ◌+◌, length, drop}
use Rattle.wf_board.specs.Laws.Histories.{lane_jobs}
use Rattle.wf_desk.proofs.docket.count_of_lane.Given as goal

abbrev pub invariant-counting : goal.invariant-counting
invariant-counting l =
    (l.count + length (lane_jobs l.lane (drop l.job-index l.jobs)) ≡ length (lane_jobs l.lane l.jobs)) × (l.count ≤ l.job-index)
