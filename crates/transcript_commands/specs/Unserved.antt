-- The batch in which a session stopped.
use Rattle.std.specs.Prelude.{◌≡◌, ℕ, List, take, drop}
use Rattle.wf_talk.specs.declared.job.Job.{Job}
use Rattle.transcript_commands.specs.declared.unserved.Unserved.{Unserved}
pub use Rattle.transcript_audit.specs.Auditor.{start_at, end_at}

-- the jobs between two places
abbrev pub jobs_between : ℕ → ℕ → List Job → List Job
jobs_between from end jobs = drop from (take end jobs)

-- the batch in which a session stopped after `count` entries, with its jobs and those before it
pub record HasStoppedIn (all : List Job) (ends : List ℕ) (count : ℕ) (u : Unserved) : Type 0 where
  pub from : u.from ≡ start_at 0 count ends
  pub next : u.next ≡ end_at count ends
  pub jobs : u.jobs ≡ jobs_between u.from u.next all
  pub earlier : u.earlier ≡ take u.from all
