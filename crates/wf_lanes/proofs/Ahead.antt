-- What is served ahead of the lanes' threads.
use Rattle.std.proofs.Common.{ℕ, Bool, Result, Ok, refl, arith}
use Rattle.std.specs.declared.alloc.AllocError.{AllocError}
use Rattle.wf_desk.specs.declared.task.Taken.{Taken}
use Rattle.wf_desk.specs.declared.task.Taken.TheVariants as taken
use Rattle.wf_desk.specs.Desks.{DeskShape}
use Rattle.wf_desk.specs.Laws.Commits.{HasPlanned, HasTakenUp}
use Rattle.wf_desk.specs.Schedules.{HasGrown}
use Rattle.wf_desk.proofs.Scheduling.{grown_added, grown_none, grown_served, grown_then}

pub grown_same : (d : DeskShape) → HasGrown d d
grown_same d = grown_none d d refl

-- a job was decided by a plan
pub grown_planned : (d e : DeskShape) (lane : ℕ) → HasPlanned d e lane → HasGrown d e
grown_planned d e lane (job, (next, (plan, added))) = grown_added d e job _ _ added

-- a lane's next job was taken up
grown_taken_up : (near : Bool) (d e : DeskShape) (lane : ℕ) (result : Result Taken AllocError) → HasTakenUp near d e lane result → HasGrown d e
grown_taken_up near d e lane (Ok (taken.Task t)) done = grown_none d e done.1.1
grown_taken_up near d e lane result done = grind (arith, grown_served, grown_planned, grown_none)

pub grown_taken : (near : Bool) (a d e : DeskShape) (lane : ℕ) (result : Result Taken AllocError) → HasGrown a d → HasTakenUp near d e lane result →
    HasGrown a e
grown_taken near a d e lane result grown done = grown_then a d e grown (grown_taken_up near d e lane result done)
