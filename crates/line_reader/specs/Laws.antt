-- What the jobs of every input meet.
pub mod Naming
use Rattle.std.specs.Prelude.{◌≡◌, ℕ, ◌+◌, ◌<◌, ◌≤◌, Bool, true, List, [], ◌∷◌, length, None}
use Rattle.std.specs.Prelude.{IsTrue}
use Rattle.wf_names.specs.declared.limits.TheConstants.{SESSION_LINE_LIMIT, BATCH_LINE_LIMIT}
use Rattle.wf_names.specs.Names.{is_name}
use Rattle.wf_talk.specs.declared.edit.Edit.{Edit}
use Rattle.wf_talk.specs.declared.edit.Edit.TheVariants as edit
use Rattle.wf_talk.specs.declared.request.Request.TheVariants as request
use Rattle.wf_talk.specs.declared.request.Ask.{Ask}
use Rattle.wf_talk.specs.declared.request.Ask.TheVariants as ask
use Rattle.wf_talk.specs.declared.job.Job.{Job}
use Rattle.wf_talk.specs.Jobs.{AreOfLanes, IsNamedAsk}
use Rattle.line_reader.specs.Jobs.{Cut, jobs_from, jobs_of_input, last_or, next_input}
use Rattle.line_reader.specs.Jobs.{start_from}
use Rattle.line_reader.specs.Cutter.{after_handing}

-- the lines of the jobs ascend strictly, from this number on
abbrev pub LinesAscend : ℕ → List Job → Type 0
LinesAscend number [] = Unit {0}
LinesAscend number (job ∷ jobs) = (number ≤ job.line) × LinesAscend (job.line + 1) jobs

-- the line of each of these jobs has a number below this
abbrev pub AreLinesBelow : ℕ → List Job → Type 0
AreLinesBelow limit [] = Unit {0}
AreLinesBelow limit (job ∷ jobs) = (job.line < limit) × AreLinesBelow limit jobs

-- the ends of batches lead from a count of jobs to a total: each batch has a job, and no more of
-- them than it may have lines
abbrev pub LeadTo : ℕ → List ℕ → ℕ → Type 0
LeadTo before [] total = before ≡ total
LeadTo before (end ∷ ends) total = (before < end) × (end ≤ before + BATCH_LINE_LIMIT) ×
    LeadTo end ends total

-- jobs and ends of batches as those of an input are
pub record AreInOrder (lanes : ℕ) (jobs : List Job) (batch_ends : List ℕ) : Type 0 where
  pub few : length jobs ≤ SESSION_LINE_LIMIT
  pub lines : LinesAscend 0 jobs
  pub below : AreLinesBelow SESSION_LINE_LIMIT jobs
  pub of_lanes : AreOfLanes lanes jobs
  pub ends : LeadTo 0 batch_ends (length jobs)

-- the jobs of every input are in order
abbrev pub JobsAreInOrder : ℕ → Type 0
JobsAreInOrder lanes =
    (bytes : List ℕ) (ended : Bool) → AreInOrder lanes (jobs_of_input bytes ended lanes).jobs
    (jobs_of_input bytes ended lanes).ends

-- an input goes on behind what was cut: a cutting that begins at the next line's number goes on
-- from there, where all jobs are handed over; they reach to the last end of a batch; and whatever
-- is read, all jobs are in order
pub record GoesOn (lanes : ℕ) (c : Cut) : Type 0 where
  pub begins : after_handing c.jobs c.ends (start_from lanes (next_input c).number) ≡ next_input c
  pub closed : last_or 0 c.ends ≡ length c.jobs
  pub order : (bytes : List ℕ) (ended : Bool) →
      AreInOrder lanes (jobs_from (next_input c) bytes ended).jobs
      (jobs_from (next_input c) bytes ended).ends

-- behind every text that meets no limit an input goes on
abbrev pub InputsGoOn : ℕ → Type 0
InputsGoOn lanes =
    (text : List ℕ) → (jobs_of_input text true lanes).stop ≡ None →
    GoesOn lanes (jobs_of_input text true lanes)

-- the user whom an edit adds has a name of a name's form
abbrev pub IsNamedEdit : Edit → Type 0
IsNamedEdit (edit.AddUser user) = IsTrue (is_name user)
IsNamedEdit e = Unit {0}

abbrev pub AddsNamed : Ask → Type 0
AddsNamed (ask.Request (request.Change by e)) = IsNamedEdit e
AddsNamed what = Unit {0}

-- so has the user whom an edit adds, and the key that a bad line lacks, in each of these jobs
abbrev pub AreNamedJobs : List Job → Type 0
AreNamedJobs [] = Unit {0}
AreNamedJobs (j ∷ js) = (IsNamedAsk j.ask × AddsNamed j.ask) × AreNamedJobs js

-- so it has in the jobs of every input
abbrev pub JobsAreNamed : ℕ → Type 0
JobsAreNamed lanes = (bytes : List ℕ) (ended : Bool) →
    AreNamedJobs (jobs_of_input bytes ended lanes).jobs
