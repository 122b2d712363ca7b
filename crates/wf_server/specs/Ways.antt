-- Inside: ways of serving the jobs of a batch at a desk.
use Rattle.std.specs.Prelude.{◌<◌}
use Rattle.wf_desk.specs.Desks.{AreOfLanes, DeskShape, IsDone}
use Rattle.wf_desk.specs.Schedules.{HasGrown}
use Rattle.wf_lanes.specs.Turns.{HasServedOn}
use Rattle.wf_server.specs.Sessions.{Setting}

-- how a desk serves
abbrev pub setting_of : DeskShape → Setting
setting_of d =
    record { policy = d.opening; lanes = d.lanes; rounds = d.rounds; restored = d.restored }

-- what serves a desk, by what it asks of it and what comes of it: it asks no more than that each
-- job is of one of the lanes, and then none is left without an entry, and nothing is changed but by
-- the entries
pub record IsWay (Asks : DeskShape → Type 0) (Leaves : DeskShape → DeskShape → Type 0) :
    Type 0 where
  pub asks : (d : DeskShape) → 0 < d.lanes → AreOfLanes d.lanes d.jobs → Asks d
  pub grown : (d e : DeskShape) → Leaves d e → HasGrown d e
  pub done : (d e : DeskShape) → Leaves d e → IsDone e

-- by a way of serving no request is answered again
abbrev pub ServesOnce : (DeskShape → DeskShape → Type 0) → Type 0
ServesOnce Leaves = (d e : DeskShape) → Leaves d e → HasServedOn d e
