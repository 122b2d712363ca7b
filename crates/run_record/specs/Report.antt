-- What a report tells of a session, and how the run of a command ends.
use Rattle.std.specs.Prelude.{◌≡◌, ℕ, List, []}
use Rattle.wf_talk.specs.declared.entry.Entry.{Entry}
use Rattle.wf_talk.specs.declared.job.Job.{Job}
use Rattle.run_record.specs.declared.fault.RunFault.TheVariants.{Usage}
use Rattle.run_record.specs.declared.outside.Outside.{Outside}
use Rattle.run_record.specs.declared.report.Report.{Report}
use Rattle.run_record.specs.Fault.{status_of}
use Rattle.run_record.specs.Outside.{ReachesSame}

-- the entries, the jobs that they answer, and the ends of the batches
pub record Told : Type 0 where
  pub entries : List Entry
  pub jobs : List Job
  pub batch_ends : List ℕ

-- of no session
abbrev pub nothing_told : Told
nothing_told = record { entries = []; jobs = []; batch_ends = [] }

-- what a report tells
abbrev pub told_by : Report → Told
told_by r = record { entries = r.entries.entries; jobs = r.jobs; batch_ends = r.batch_ends }

-- a command has ended with the status of its ending, which is not that the words are no command,
-- and what it reaches is the same
pub record HasEnded {F S K : Type 0} (o after : Outside F S K) (r : Report) : Type 0 where
  pub status : r.status ≡ status_of r.fault
  pub usage : r.fault ≡ Usage → ⊥
  pub same : ReachesSame o after
