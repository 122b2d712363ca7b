-- What a caller may rest on of every trial.
use Rattle.std.specs.Prelude.{◌≡◌, ℕ, ◌+◌, ◌≤◌, ◌<◌, List, ◌∷◌, map, length, slice_index_or}
use Rattle.std.specs.List.{All, range_with_len}
use Rattle.wf_talk.specs.declared.job.Job.{Job}
use Rattle.wf_names.specs.declared.limits.TheConstants.{BATCH_LINE_LIMIT}
use Rattle.trial_command.specs.Jobs.{trial_jobs, trial_ends, job_count}

-- lines are numbered from 0 without gaps, and each job is of one of four lanes
pub record AreTrialJobs (jobs : List Job) : Type 0 where
  pub lines : map (λ j. j.line) jobs ≡ range_with_len 0 (length jobs)
  pub lanes : All (λ j. j.lane < 4) jobs

-- `count` jobs are cut into batches by their ends: each has a job, none has too many, and the last
-- ends with the jobs
pub record AreEndsOf (count : ℕ) (batch_ends : List ℕ) : Type 0 where
  pub ascend : (k : ℕ) → k < length batch_ends →
      slice_index_or (0 ∷ batch_ends) k 0 < slice_index_or batch_ends k 0
  pub short : (k : ℕ) → k < length batch_ends →
      slice_index_or batch_ends k 0 ≤ slice_index_or (0 ∷ batch_ends) k 0 + BATCH_LINE_LIMIT
  pub closed : slice_index_or (0 ∷ batch_ends) (length batch_ends) 0 ≡ count

-- the jobs of a trial for n cases and the ends of its batches are so
pub record IsTrial (seed n : ℕ) : Type 0 where
  pub jobs : AreTrialJobs (trial_jobs seed n)
  pub count : length (trial_jobs seed n) ≡ job_count n
  pub batches : AreEndsOf (job_count n) (trial_ends n)

-- and that for each trial that can be made
abbrev pub AreTrials : Type 0
AreTrials = (seed n : ℕ) → 1 ≤ n → n ≤ 40 → IsTrial seed n
