use Rattle.std.proofs.Common.{◌≡◌, ℕ, ◌<◌, length, slice_index_or}
use Rattle.wf_names.specs.declared.limits.TheConstants.{LANE_LIMIT}
use Rattle.wf_desk.specs.Docket.{IsNextPlace}
use Rattle.wf_desk.proofs.docket.first_places.Given as goal

abbrev pub invariant-lanes : goal.invariant-lanes
invariant-lanes l = (length l.places ≡ LANE_LIMIT) × ((n : ℕ) → n < l.lane → IsNextPlace l.jobs n 0 (slice_index_or l.places n 0))
