use Rattle.std.proofs.Common.{length}
use Rattle.server_tests.proofs.desks.+are_of_lanes.Given as goal

abbrev pub decreases-are_of_lanes : goal.decreases-are_of_lanes
decreases-are_of_lanes l = length l.events.now
