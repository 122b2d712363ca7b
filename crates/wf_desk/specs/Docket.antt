-- Where a lane's jobs stand among jobs, and the entry of a job.
use Rattle.std.specs.Prelude.{◌≡◌, ℕ, ◌≤◌, List, length, map, take, slice_get, IfSome}
use Rattle.wf_talk.specs.declared.entry.Entry.{Entry}
use Rattle.wf_talk.specs.declared.job.Job.{Job}
use Rattle.wf_talk.specs.declared.reply.Reply.{Reply}
use Rattle.wf_board.specs.Laws.Histories.{job_of_entry, lane_jobs}

-- a place among jobs from which a lane goes on: it is the first of the lane's from another place
-- on, or behind all
pub record IsNextPlace (jobs : List Job) (lane from place : ℕ) : Type 0 where
  pub within : place ≤ length jobs
  pub same : lane_jobs lane (take place jobs) ≡ lane_jobs lane (take from jobs)
  pub here : IfSome (slice_get jobs place) (λ j. j.lane ≡ lane)

-- the entry of a job at a place
abbrev pub entry_for : Job → ℕ → Reply → Entry
entry_for j at given = record { at = at; lane = j.lane; line = j.line; ask = j.ask; reply = given }

-- the jobs of a lane that entries answer
abbrev pub jobs_answered : List Entry → ℕ → List Job
jobs_answered entries lane = lane_jobs lane (map job_of_entry entries)

-- entries answer the first jobs of each lane, in order
abbrev pub AnswersFirst : List Job → List Entry → Type 0
AnswersFirst jobs entries = (lane : ℕ) →
    jobs_answered entries lane ≡ take (length (jobs_answered entries lane)) (lane_jobs lane jobs)

-- a lane goes on at a place among jobs of which these entries answer its first ones
pub record IsPlaceBehind (jobs : List Job) (entries : List Entry) (lane place : ℕ) : Type 0 where
  pub within : place ≤ length jobs
  pub before : jobs_answered entries lane ≡ lane_jobs lane (take place jobs)
  pub here : IfSome (slice_get jobs place) (λ j. j.lane ≡ lane)
