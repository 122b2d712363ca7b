use Rattle.std.proofs.Common.{◌≡◌, length, take}
use Rattle.wf_names.specs.declared.limits.TheConstants.{LANE_LIMIT}
use Rattle.wf_desk.proofs.Resuming.{ArePlacesBehind}
use Rattle.wf_desk.proofs.docket.places_after.Given as goal

abbrev pub invariant-answered : goal.invariant-answered
invariant-answered l = (length l.places ≡ LANE_LIMIT) × ArePlacesBehind l.jobs (take l.entry-index l.entries) l.places
