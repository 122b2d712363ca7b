-- What the program is asked to tell.
use Rattle.std.specs.Prelude.{◌<◌, ◌≤◌}
use Rattle.wf_names.specs.declared.limits.TheConstants.{LANE_LIMIT}
use Rattle.tell_run.specs.declared.words.Asked.{Asked}
use Rattle.tell_run.specs.declared.words.Asked.TheVariants as asked

-- a session has lanes
abbrev pub CanTell : Asked → Type 0
CanTell (asked.Policy policy) = Unit {0}
CanTell (asked.Why policy flow) = Unit {0}
CanTell (asked.Told what session) = (0 < session.lanes) × (session.lanes ≤ LANE_LIMIT)
