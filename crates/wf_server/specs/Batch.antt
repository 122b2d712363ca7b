-- Inside: a desk before a batch and after it.
use Rattle.std.specs.Prelude.{◌≡◌, ◌<◌, List, length, take, drop}
use Rattle.wf_talk.specs.declared.job.Job.{Job}
use Rattle.wf_board.specs.Laws.Histories.{AreAnsweredOnce}
use Rattle.wf_desk.specs.Desks.{AreOfLanes, DeskShape, IsDone, jobs_told}
use Rattle.run_record.specs.Report.{Told}
use Rattle.wf_server.specs.Batches.{IsBatch}
use Rattle.wf_server.specs.Ways.{ServesOnce, setting_of}

-- a desk has lanes, and each of its jobs is of one of them
pub record CanBeServed (d : DeskShape) : Type 0 where
  pub some : 0 < d.lanes
  pub of_lanes : AreOfLanes d.lanes d.jobs

-- a desk can take a batch behind the jobs that are told: each of these has its entry
pub record CanTake (d : DeskShape) (told : Told) (batch : List Job) : Type 0 where
  pub some : 0 < d.lanes
  pub done : IsDone d
  pub whole : length told.entries ≡ length told.jobs
  pub follows : IsBatch d.lanes (length told.jobs) batch

-- a desk was served on: how it serves and what was taken up stay as they were, and by a way of
-- serving that answers no request again none is
pub record IsServedOn (Leaves : DeskShape → DeskShape → Type 0) (d e : DeskShape) : Type 0 where
  pub setting : setting_of e ≡ setting_of d
  pub begins : take d.restored e.entries ≡ take d.restored d.entries
  pub once : ServesOnce Leaves → AreAnsweredOnce (drop d.restored d.entries) →
      AreAnsweredOnce (drop d.restored e.entries)

-- the jobs at a desk were answered: it was served on, and was given no other jobs
pub record HasServedJobs (Leaves : DeskShape → DeskShape → Type 0) (d e : DeskShape) : Type 0 where
  pub on : IsServedOn Leaves d e
  pub jobs : jobs_told e ≡ jobs_told d
