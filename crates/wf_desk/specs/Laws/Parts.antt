-- Histories that answer a part of the jobs of an input.
use Rattle.std.specs.Prelude.{◌≡◌, ℕ, ◌<◌, ◌≤◌, List, length, map, take}
use Rattle.wf_talk.specs.declared.entry.Entry.{Entry}
use Rattle.wf_talk.specs.declared.job.Job.{Job}
use Rattle.wf_board.specs.Laws.Histories.{BatchRests, batch_end, batch_jobs, job_of_entry}
use Rattle.wf_board.specs.Laws.Histories.{lane_jobs}

-- a lane's entries of a batch, as the jobs that they answer, and its jobs
abbrev pub lane_answered : List Entry → List ℕ → ℕ → ℕ → List Job
lane_answered entries batch_ends k lane =
    lane_jobs lane (batch_jobs batch_ends k (map job_of_entry entries))

abbrev pub lane_asked : List Job → List ℕ → ℕ → ℕ → List Job
lane_asked jobs batch_ends k lane = lane_jobs lane (batch_jobs batch_ends k jobs)

-- the entries answer jobs as far as they go: within a batch each lane's first ones, in order, and
-- all of them where the batch ends within the entries
pub record FillsPart (entries : List Entry) (jobs : List Job) (batch_ends : List ℕ) : Type 0 where
  pub few : length entries ≤ length jobs
  pub fronts : (k : ℕ) → k < length batch_ends → (lane : ℕ) →
      lane_answered entries batch_ends k lane ≡ take
      (length (lane_answered entries batch_ends k lane)) (lane_asked jobs batch_ends k lane)
  pub batches : (k : ℕ) → k < length batch_ends → batch_end batch_ends k ≤ length entries →
      (lane : ℕ) →
      lane_answered entries batch_ends k lane ≡ lane_asked jobs batch_ends k lane
  pub rests : (k : ℕ) → k < length batch_ends → BatchRests batch_ends k entries
