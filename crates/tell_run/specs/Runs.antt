-- What a run of the program comes to, by what it is asked to tell.
use Rattle.std.specs.Prelude.{◌≡◌, ℕ, List, Option, None}
use Rattle.std.proofs.Common.{◌⊎◌}
use Rattle.wf_outside.specs.Laws.Outside.{Filed}
use Rattle.run_record.specs.declared.fault.RunFault.{RunFault}
use Rattle.run_record.specs.declared.fault.RunFault.TheVariants.{Nothing, Usage, NoMemory}
use Rattle.run_record.specs.Fault.{CountsLoads, CountsWrites}
use Rattle.run_record.specs.Report.{nothing_told}
use Rattle.run_record.specs.declared.outside.Outside.{Outside}
use Rattle.run_record.specs.Laws.Run.{Run, streams_of}
use Rattle.wf_commands.specs.Once.{Ends, RunsOnce}
use Rattle.case_story.specs.Transcript.{Tells, TellsRun}
use Rattle.tell_run.specs.declared.words.Asked.{Asked}
use Rattle.tell_run.specs.declared.words.Asked.TheVariants as asked
use Rattle.tell_run.specs.Words.{CanTell}
use Rattle.tell_run.specs.Policy.{JudgesFiled}
use Rattle.tell_run.specs.Why.{TellsWhy}

-- a run over what it reaches, before and after, that tells nothing of a session of its own
abbrev pub run_to : {F S K : Type 0} → (F → List ℕ → Filed) → (F → ℕ) → (S → Option (List ℕ))
    → (S → ℕ) → (K → Option (List ℕ)) → (K → ℕ) → Outside F S K → Outside F S K → RunFault → Run
run_to file load_faults left read_faults held write_faults o after fault = record {
  files = file o.shelf.now;
  load_faults = load_faults o.shelf.now;
  load_faults_after = load_faults after.shelf.now;
  before = streams_of left read_faults held write_faults o.source.now o.sink.now;
  after = streams_of left read_faults held write_faults after.source.now after.sink.now;
  told = nothing_told;
  fault = fault;
}

-- nothing is read, and each fault of the outside is counted
pub record CountsFaults (r : Run) : Type 0 where
  pub unread : r.after.input ≡ r.before.input
  pub loads : CountsLoads r.fault r.load_faults r.load_faults_after
  pub writes : CountsWrites r.fault r.before.write_faults r.after.write_faults

-- by what is asked: how the run ends, and what it writes
abbrev pub RunsAsked : Asked → Run → Type 0
RunsAsked (asked.Policy policy) r = CountsFaults r ×
    JudgesFiled policy.now r.files r.before.output r.after.output r.fault
RunsAsked (asked.Why policy flow) r = RunsOnce None policy.now (λ told p. TellsWhy p flow.now) r
RunsAsked (asked.Told what s) r = CountsFaults r × TellsRun r.files
    (record { policy = s.policy.now; requests = s.requests.now; transcript = s.transcript.now })
    s.lanes s.rounds (Tells what) r.before.output r.after.output r.fault

-- the words ask for something that can be told; or for help, which is written; or they are none, or
-- there is no memory, and nothing is
abbrev pub RunsAlone : Run → Type 0
RunsAlone r =
    ((a : Asked) × (CanTell a × RunsAsked a r))
    ⊎ (CountsFaults r × (((help : List ℕ) × Ends (λ fault text. (fault ≡ Nothing) × (text ≡ help))
    r.before.output r.after.output r.fault)
    ⊎ (((r.fault ≡ Usage) ⊎ (r.fault ≡ NoMemory)) × (r.after.output ≡ r.before.output))))
