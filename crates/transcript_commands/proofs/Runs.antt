-- How the steps of a run compose.
use Rattle.transcript_commands.proofs.Common.{◌≡◌, ℕ, true, List, Option, Result, Ok, Err, arith, IsErrAnd, POLICY_FILE_LIMIT, Filed, told, untold}
use Rattle.transcript_commands.proofs.Common.{nothing_taken, PolicyShape, RunFault, fault_in, CountsLoads, OverPolicy, IsLoadEnding, Finding, ending_of}
use Rattle.transcript_commands.proofs.Common.{finding_text, AuditsPolicy, EndsWithout, FindsFile, HasTakenSome, IsAuditEnding}
use Rattle.wf_outside.specs.Laws.Outside.{HasPart, with_bytes}
use Rattle.wf_outside.proofs.OutsideLaws.{nothing_put}
use Rattle.run_record.specs.declared.fault.RunFault.TheVariants.{Nothing, Write, NoMemory}
use Rattle.run_record.specs.Fault.{is_before_input, CountsReadsAlone, CountsWrites}
use Rattle.run_record.specs.Report.{nothing_told}
use Rattle.run_record.specs.Laws.Run.{Run, OverFile}
use Rattle.wf_commands.specs.Once.{Ends, HasText, IsQuiet}
use Rattle.wf_commands.specs.Load.{EndsTooLong}
use Rattle.wf_commands.specs.Answer as answer
use Rattle.wf_commands.proofs.Runs.{ends_refused, loaded, no_writes, own_reads, quiet_refused}
use Rattle.transcript_commands.specs.Audit.{AuditsRun, ReadsAsAudit}
use Rattle.transcript_commands.specs.Steps.{FailsAs, HasToldPart}

-- ---- by the ending

-- where nothing was read
pub unread : (fault : RunFault) (left : Option (List ℕ)) → IsLoadEnding fault → ReadsAsAudit fault left left
unread fault left ending = grind (arith, nothing_taken)

pub unread_after : (result : Result Finding RunFault) (fault : RunFault) (left : Option (List ℕ)) → IsErrAnd result (λ e. e ≡ fault) → IsLoadEnding fault
    → ReadsAsAudit (fault_in result) left left
unread_after result fault left is ending = grind (arith, unread)

-- ---- the run

-- how a run ends that has found something
finding_late : (f : Finding) → is_before_input (ending_of f) ≡ true → ⊥
finding_late f h = grind arith

finding_loads : (f : Finding) (before after : ℕ) → after ≡ before → CountsLoads (ending_of f) before after
finding_loads f before after same = grind arith

finding_reads : (f : Finding) (before after : ℕ) → after ≡ before → CountsReadsAlone (ending_of f) before after
finding_reads f before after same = grind arith

finding_writes : (f : Finding) (before after : ℕ) → after ≡ before → CountsWrites (ending_of f) before after
finding_writes f before after same = grind arith

finding_input : (f : Finding) (before after : Option (List ℕ)) → HasTakenSome before after → ReadsAsAudit (ending_of f) before after
finding_input f before after taken = grind arith

finding_quiet : (f : Finding) (before after : Option (List ℕ)) → after ≡ with_bytes before (finding_text f) → IsQuiet (ending_of f) before after
finding_quiet f before after wrote = grind (arith, nothing_put)

finding_ends : (A : RunFault → List ℕ → Type 0) (f : Finding) (before after : Option (List ℕ)) → A (ending_of f) (finding_text f) →
    after ≡ with_bytes before (finding_text f) → Ends A before after (ending_of f)
finding_ends A f before after h wrote = grind arith

finding_over : (A : PolicyShape → RunFault → List ℕ → Type 0) (f : Finding) (filed : Filed) (before after : Option (List ℕ)) → FindsFile A filed (Ok f)
    → after ≡ with_bytes before (finding_text f) → OverFile filed (ending_of f) (λ file. Ends (OverPolicy A file) before after (ending_of f))
finding_over A f filed before after h is = grind (arith, finding_ends)

late_without : (filed : Filed) (fault : RunFault) → EndsWithout filed Nothing → EndsWithout filed fault
late_without filed fault h = grind arith

-- what is found is told
pub told_run : (policy requests : List ℕ) (lanes rounds : ℕ) (r : Run) (f : Finding) → r.fault ≡ ending_of f
    → FindsFile (AuditsPolicy (record { requests = r.files requests; lanes = lanes; rounds = rounds })
    (record { before = r.before.input; after = r.after.input })) (r.files policy) (Ok f)
    → EndsTooLong POLICY_FILE_LIMIT (r.files policy) Nothing → EndsWithout (r.files requests) Nothing → r.load_faults_after ≡ r.load_faults →
    r.after.read_faults ≡ r.before.read_faults → r.after.write_faults ≡ r.before.write_faults
    → HasTakenSome r.before.input r.after.input → r.after.output ≡ with_bytes r.before.output (finding_text f) → r.told ≡ nothing_told →
    AuditsRun policy requests lanes rounds r
told_run policy requests lanes rounds r f is finds named without loads reads writes input wrote nothing =
    grind (arith, finding_late, finding_loads, own_reads, finding_reads, finding_writes, finding_over, loaded, finding_quiet, late_without, finding_input)

-- what is found could not be told
part_told : (f : Finding) (before after : Option (List ℕ)) → HasToldPart f before after → HasText (ending_of f) × HasPart before after (finding_text f)
part_told f before after h = grind arith

part_over : (A : PolicyShape → RunFault → List ℕ → Type 0) (f : Finding) (filed : Filed) (before after : Option (List ℕ)) → FindsFile A filed (Ok f)
    → HasToldPart f before after → OverFile filed Write (λ file. Ends (OverPolicy A file) before after Write)
part_over A f filed before after h part = grind (arith, part_told)

none_over : (A : PolicyShape → RunFault → List ℕ → Type 0) (f : Finding) (filed : Filed) (before after : Option (List ℕ)) → FindsFile A filed (Ok f)
    → after ≡ before → OverFile filed NoMemory (λ file. Ends (OverPolicy A file) before after NoMemory)
none_over A f filed before after h same = grind arith

pub untold_run : (policy requests : List ℕ) (lanes rounds : ℕ) (r : Run) (f : Finding) (fault : RunFault) → r.fault ≡ fault →
    FailsAs f r.before.output r.after.output fault
    → FindsFile (AuditsPolicy (record { requests = r.files requests; lanes = lanes; rounds = rounds })
    (record { before = r.before.input; after = r.after.input })) (r.files policy) (Ok f)
    → EndsTooLong POLICY_FILE_LIMIT (r.files policy) Nothing → EndsWithout (r.files requests) Nothing → r.load_faults_after ≡ r.load_faults →
    r.after.read_faults ≡ r.before.read_faults
    → CountsWrites fault r.before.write_faults r.after.write_faults → HasTakenSome r.before.input r.after.input → r.told ≡ nothing_told →
    AuditsRun policy requests lanes rounds r
untold_run policy requests lanes rounds r f Write is fails finds named without loads reads writes input nothing = record {
  orderly = record { early = λ early. cc; loads = rw is loads; reads = rw is (omega (arith, reads)); writes = rw is writes };
  once = record {
    answer = rw is (part_over (AuditsPolicy (record { requests = r.files requests; lanes = lanes; rounds = rounds })
        (record { before = r.before.input; after = r.after.input })) f (r.files policy) r.before.output r.after.output finds fails);
    named = loaded POLICY_FILE_LIMIT (r.files policy) r.fault named;
    quiet = rw is tt;
    untold = nothing;
    reads = rw is reads;
  };
  without = rw is (late_without (r.files requests) Write without);
  reads = rw is input;
}
untold_run policy requests lanes rounds r f NoMemory is fails finds named without loads reads writes input nothing = record {
  orderly = record { early = λ early. cc; loads = rw is loads; reads = rw is (omega (arith, reads)); writes = rw is writes };
  once = grind (arith, none_over, loaded);
  without = rw is (late_without (r.files requests) NoMemory without);
  reads = rw is input;
}
untold_run policy requests lanes rounds r f fault is fails finds named without loads reads writes input nothing = absurd fails

refused_early : (fault : RunFault) (before after : Option (List ℕ)) → IsAuditEnding fault → is_before_input fault ≡ true → ReadsAsAudit fault before after →
    after ≡ before
refused_early fault before after ending early reads = grind arith

refused_file : (A : PolicyShape → RunFault → List ℕ → Type 0) (filed : Filed) (fault : RunFault) (before after : Option (List ℕ)) → IsAuditEnding fault →
    FindsFile A filed (Err fault)
    → after ≡ before → OverFile filed fault (λ file. Ends (OverPolicy A file) before after fault)
refused_file A filed fault before after ending h same = grind (arith, ends_refused)

pub refused_run : (policy requests : List ℕ) (lanes rounds : ℕ) (r : Run) → IsAuditEnding r.fault
    → FindsFile (AuditsPolicy (record { requests = r.files requests; lanes = lanes; rounds = rounds })
    (record { before = r.before.input; after = r.after.input })) (r.files policy) (Err r.fault)
    → EndsTooLong POLICY_FILE_LIMIT (r.files policy) r.fault → EndsWithout (r.files requests) r.fault →
    CountsLoads r.fault r.load_faults r.load_faults_after → CountsReadsAlone r.fault r.before.read_faults r.after.read_faults
    → r.after.write_faults ≡ r.before.write_faults → ReadsAsAudit r.fault r.before.input r.after.input → r.after.output ≡ r.before.output →
    r.told ≡ nothing_told
    → AuditsRun policy requests lanes rounds r
refused_run policy requests lanes rounds r ending finds named without loads reads writes input output nothing =
    grind (arith, unread, refused_early, own_reads, no_writes, refused_file, quiet_refused)
