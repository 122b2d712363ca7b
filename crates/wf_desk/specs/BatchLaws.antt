-- Inside: how the entries of a batch follow those before.
use Rattle.std.specs.Prelude.{◌≡◌, ℕ, ◌<◌, ◌≤◌, List, length, map}
use Rattle.wf_talk.specs.declared.entry.Entry.{Entry}
use Rattle.wf_talk.specs.declared.job.Job.{Job}
use Rattle.wf_board.specs.Laws.Histories.{EachAfter, FillsJobs, RestsFrom, batch_end, batch_start}
use Rattle.wf_board.specs.Laws.Histories.{job_of_entry, lane_jobs}

-- the ends of batches are counts of the jobs, and the last is that of all
pub record EndAt (batch_ends : List ℕ) (count : ℕ) : Type 0 where
  pub within : (k : ℕ) → k < length batch_ends → batch_end batch_ends k ≤ count
  pub closed : batch_start batch_ends (length batch_ends) ≡ count

-- entries answer the jobs of one more batch
pub record AnswersBatch (es new : List Entry) (more : List Job) : Type 0 where
  pub whole : length new ≡ length more
  pub lanes : (lane : ℕ) → lane_jobs lane (map job_of_entry new) ≡ lane_jobs lane more
  pub rests : EachAfter (RestsFrom (length es)) es new

-- entries fill the jobs of the batches so far, and new ones answer those of one more
pub record AnswersNext (es new : List Entry) (js more : List Job) (ends : List ℕ) : Type 0 where
  pub fills : FillsJobs es js ends
  pub at_end : EndAt ends (length js)
  pub answers : AnswersBatch es new more
