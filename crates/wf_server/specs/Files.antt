-- Inside: answering the jobs of a requests file, batch after batch.
use Rattle.std.specs.Prelude.{◌≡◌, ℕ, ◌<◌, ◌≤◌, List, length, take, Option, Result, Ok, Err}
use Rattle.wf_talk.specs.declared.job.Job.{Job}
use Rattle.wf_board.specs.Laws.Histories.{batch_start}
use Rattle.wf_desk.specs.Desks.{DeskShape}
use Rattle.run_record.specs.declared.fault.RunFault.{RunFault}
use Rattle.run_record.specs.declared.fault.RunFault.TheVariants.{Write}
use Rattle.run_record.specs.Report.{Told}
use Rattle.line_reader.specs.Laws.{AreInOrder}
use Rattle.transcript_commands.specs.Laws.Begun.{StandsAt}
use Rattle.wf_server.specs.Batch.{CanBeServed}
use Rattle.wf_server.specs.Batches.{HasAnsweredAll, HasAnsweredPart}
use Rattle.wf_server.specs.Ways.{setting_of}

-- the jobs of the first `count` batches of a file are told
pub record IsToldTo (jobs : List Job) (batch_ends : List ℕ) (count : ℕ) (told : Told) : Type 0 where
  pub known : count ≤ length batch_ends
  pub all_jobs : told.jobs ≡ take (batch_start batch_ends count) jobs
  pub all_ends : told.batch_ends ≡ take count batch_ends

-- where a fault ends the session, the jobs of a number of batches are told, from the first on;
-- where writing failed there are such jobs
pub record StopsIn (jobs : List Job) (batch_ends : List ℕ) (fault : RunFault) (told : Told) :
    Type 0 where
  pub count : ℕ
  pub to : IsToldTo jobs batch_ends count told
  pub some : fault ≡ Write → 0 < length told.jobs

-- the jobs of a file are in order, and those of its first `count` batches are told
pub record IsInFile (lanes : ℕ) (jobs : List Job) (batch_ends : List ℕ) (count : ℕ) (told : Told) :
    Type 0 where
  pub order : AreInOrder lanes jobs batch_ends
  pub to : IsToldTo jobs batch_ends count told

-- a desk that can be served stands behind entries that were taken up, and the jobs up to the end of
-- its batch are told
pub record StandsBehind (d : DeskShape) (told : Told) : Type 0 where
  pub ready : CanBeServed d
  pub restored : d.restored ≡ length d.entries
  pub stands : StandsAt d.entries d.start d.jobs told.jobs told.batch_ends

-- what came of answering the jobs of a file
abbrev pub FileTo : Option (List ℕ) → Option (List ℕ) → List Job → List ℕ → DeskShape → Told →
    Result (Unit {0}) RunFault → Type 0
FileTo held held-after jobs batch_ends d told (Ok done) =
    IsToldTo jobs batch_ends (length batch_ends) told × HasAnsweredAll held held-after d told
FileTo held held-after jobs batch_ends d told (Err fault) =
    StopsIn jobs batch_ends fault told × HasAnsweredPart (setting_of d) held held-after told
