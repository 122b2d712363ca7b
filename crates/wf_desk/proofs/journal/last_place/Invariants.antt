use Rattle.std.proofs.Common.{◌≡◌, ◌≤◌, take, length}
use Rattle.wf_board.specs.Counting.{counted_end}
use Rattle.wf_desk.proofs.journal.last_place.Given as goal

abbrev pub invariant-looking : goal.invariant-looking
invariant-looking l = (l.place ≤ length l.entries) × (counted_end l.ask (take l.place l.entries) ≡ counted_end l.ask l.entries)

abbrev pub decreases-looking : goal.decreases-looking
decreases-looking l = l.place
