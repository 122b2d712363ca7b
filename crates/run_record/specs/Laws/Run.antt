-- The record of a run, and what every run keeps, whatever its command.
use Rattle.std.specs.Prelude.{◌≡◌, ℕ, true, List, Option}
use Rattle.wf_outside.specs.Laws.Outside.{Filed, told, missing, untold}
use Rattle.run_record.specs.declared.fault.RunFault.{RunFault}
use Rattle.run_record.specs.declared.fault.RunFault.TheVariants.{Load}
use Rattle.run_record.specs.Fault.{is_before_input, CountsLoads, CountsReads, CountsWrites}
use Rattle.run_record.specs.declared.outside.Outside.{Outside}
use Rattle.run_record.specs.declared.report.Report.{Report}
use Rattle.run_record.specs.Report.{Told, nothing_told, told_by}

-- the input that is left and the output so far, where the source and the sink tell, and how often
-- each failed
pub record Streams : Type 0 where
  pub input : Option (List ℕ)
  pub output : Option (List ℕ)
  pub read_faults : ℕ
  pub write_faults : ℕ

-- a run: what is told of each file, how often loading failed before and after, the streams before
-- and after, what the report tells, and how it ended
pub record Run : Type 0 where
  pub files : List ℕ → Filed
  pub load_faults : ℕ
  pub load_faults_after : ℕ
  pub before : Streams
  pub after : Streams
  pub told : Told
  pub fault : RunFault

-- the streams as a source and a sink tell them and count their faults
abbrev pub streams_of : {S K : Type 0} → (S → Option (List ℕ)) → (S → ℕ) → (K → Option (List ℕ))
    → (K → ℕ) → S → K → Streams
streams_of left read_faults held write_faults source sink =
    record {
      input = left source;
      output = held sink;
      read_faults =
          read_faults source;
      write_faults = write_faults sink;
    }

-- the run over a shelf as it tells its files and counts its faults, with a report
abbrev pub run_of : {F : Type 0} → (F → List ℕ → Filed) → (F → ℕ) → F → F → Streams → Streams
    → Report → Run
run_of file faults shelf shelf_after before after report = record {
  files = file shelf;
  load_faults = faults shelf;
  load_faults_after = faults shelf_after;
  before = before;
  after = after;
  told = told_by report;
  fault = report.fault;
}

-- the same run over what it reaches, before and after
abbrev pub run_over : {F S K : Type 0} → (F → List ℕ → Filed) → (F → ℕ) → (S → Option (List ℕ))
    → (S → ℕ) → (K → Option (List ℕ)) → (K → ℕ) → Outside F S K → Outside F S K → Report → Run
run_over file load_faults left read_faults held write_faults o after report =
    run_of file load_faults o.shelf.now after.shelf.now
    (streams_of left read_faults held write_faults o.source.now o.sink.now)
    (streams_of left read_faults held write_faults after.source.now after.sink.now) report

-- the source is left as it was
abbrev pub LeavesSource : {F S K : Type 0} → Outside F S K → Outside F S K → Type 0
LeavesSource o after = after.source.now ≡ o.source.now

-- nothing is read, written or told
pub record IsUntouched (r : Run) : Type 0 where
  pub unread : r.after.input ≡ r.before.input
  pub unwritten : r.after.output ≡ r.before.output
  pub untold : r.told ≡ nothing_told

-- what every run keeps: one that ends before its input touches nothing, and each fault of the
-- outside is counted
pub record IsOrderly (r : Run) : Type 0 where
  pub early : is_before_input r.fault ≡ true → IsUntouched r
  pub loads : CountsLoads r.fault r.load_faults r.load_faults_after
  pub reads : CountsReads r.fault r.before.read_faults r.after.read_faults
  pub writes : CountsWrites r.fault r.before.write_faults r.after.write_faults

-- what the shelf tells of a file that the run loads decides how it ends: a missing one is a
-- load fault, and one of which nothing is told ends it as a file with some content does
abbrev pub OverFile : Filed → RunFault → (List ℕ → Type 0) → Type 0
OverFile untold fault Ends = (content : List ℕ) × Ends content
OverFile missing fault Ends = fault ≡ Load
OverFile (told content) fault Ends = Ends content
