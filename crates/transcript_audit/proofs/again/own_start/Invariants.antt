use Rattle.std.proofs.Common.{◌≡◌, ◌≤◌, max, take, length}
use Rattle.wf_board.specs.Counting.{lane_end}
use Rattle.transcript_audit.proofs.again.own_start.Given as goal

abbrev pub invariant-looking : goal.invariant-looking
invariant-looking l =
    (l.place ≤ length l.entries) × ((l.start ≤ l.place) × (max (lane_end l.lane (take l.place l.entries)) l.start ≡ max (lane_end l.lane l.entries) l.start))

abbrev pub decreases-looking : goal.decreases-looking
decreases-looking l = l.place
