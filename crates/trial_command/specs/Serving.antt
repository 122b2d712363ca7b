-- Inside: serving the batches of a trial at a desk.
use Rattle.std.specs.Prelude.{◌≡◌, ℕ, ◌<◌, List, ◌++◌, length}
use Rattle.std.specs.List.{All}
use Rattle.wf_talk.specs.declared.entry.Entry.{Entry}
use Rattle.wf_talk.specs.declared.job.Job.{Job}
use Rattle.wf_board.specs.Laws.Histories.{AreAnsweredOnce, FillsJobs}
use Rattle.wf_desk.specs.BatchLaws.{AnswersBatch, EndAt}
use Rattle.wf_desk.specs.Desks.{DeskShape, IsDone}
use Rattle.wf_lanes.specs.Turns.{AreByTurns}
use Rattle.trial_command.specs.TrialLaws.{AreEndsOf}
use Rattle.run_record.specs.Report.{Told}
use Rattle.trial_command.specs.declared.session.Served.{Served}
use Rattle.trial_command.specs.declared.session.TheConstants.{LANES}
use Rattle.trial_command.specs.Run.{AreBatchesByTurns}

-- what a session tells
abbrev pub trial_told : Served → Told
trial_told s = record { entries = s.entries.entries; jobs = s.jobs; batch_ends = s.batch_ends }

-- a desk stays one of the same session
pub record IsSameSession (before after : DeskShape) : Type 0 where
  pub opening : after.opening ≡ before.opening
  pub lanes : after.lanes ≡ before.lanes
  pub rounds : after.rounds ≡ before.rounds
  pub restored : after.restored ≡ before.restored

-- the jobs of one more batch were served
pub record HasServedBatch (before after : DeskShape) (batch : List Job) : Type 0 where
  pub same : IsSameSession before after
  pub more : List Entry
  pub extends : after.entries ≡ before.entries ++ more
  pub answers : AnswersBatch before.entries more batch
  pub turns : AreByTurns more
  pub once : AreAnsweredOnce more
  pub done : IsDone after

-- the jobs of the batches were served, from the first on
pub record HasServedAll (before after : DeskShape) (jobs : List Job) (batch_ends : List ℕ) :
    Type 0 where
  pub same : IsSameSession before after
  pub done : IsDone after
  pub fills : FillsJobs after.entries jobs batch_ends
  pub ends : EndAt batch_ends (length jobs)
  pub turns : AreBatchesByTurns batch_ends after.entries
  pub once : AreAnsweredOnce after.entries

-- these jobs, cut so, can be served
pub record AreForTrial (jobs : List Job) (batch_ends : List ℕ) : Type 0 where
  pub few : length jobs < 4294967296
  pub lanes : All (λ j. j.lane < LANES) jobs
  pub batches : AreEndsOf (length jobs) batch_ends
