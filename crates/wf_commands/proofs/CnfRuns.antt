-- How the steps of a run compose.
use Rattle.std.proofs.Common.{◌≡◌, ℕ, List, Option, Some, Result, Ok, Err, arith, refl, inl, inr}
use Rattle.std.specs.Prelude.{IsErrAnd, IsErrOf, OnOk}
use Rattle.basics.specs.declared.fault.Fault.{Fault}
use Rattle.basics.specs.declared.fault.Fault.TheVariants as fault
use Rattle.wf_names.specs.declared.limits.TheConstants.{LINE_LIMIT, POLICY_FILE_LIMIT}
use Rattle.wf_outside.specs.Laws.Outside.{Filed, told, missing, untold, HasPart, Rose, with_bytes}
use Rattle.wf_outside.specs.declared.source.Failed.{Failed}
use Rattle.policy_book.specs.Laws.Shapes.{PolicyShape}
use Rattle.cnf_export.specs.Encoders.{EncoderShape}
use Rattle.cnf_export.specs.Text.{dimacs_text}
use Rattle.cnf_export.specs.Writing.{not_written, StaysUnlessUnwritten}
use Rattle.run_record.specs.declared.fault.RunFault.{RunFault}
use Rattle.run_record.specs.declared.fault.RunFault.TheVariants.{Nothing, Write, NoMemory}
use Rattle.run_record.specs.Fault.{fault_in, CountsLoads, CountsReadsAlone}
use Rattle.run_record.specs.Report.{nothing_told}
use Rattle.run_record.specs.Laws.Run.{Run, OverFile}
use Rattle.wf_commands.specs.Answer.{AnswersFile, IsCommandEnding}
use Rattle.wf_commands.specs.Once.{Ends, HasReadInput, OverPolicy, ReadsInput, RunsOnce}
use Rattle.wf_commands.specs.Load.{EndsTooLong, IsLoadEnding}
use Rattle.wf_commands.proofs.Runs.{loaded, unread, without_answer, WritesNothing}
use Rattle.wf_commands.specs.Model.{BreaksOff, EndsEarly, EndsWithoutModel, HasWritten, WritesClauses}
use Rattle.wf_commands.specs.CnfAnswers.{ClausesAsked}
use Rattle.wf_commands.specs.CnfSteps.{EncodesFile, ending_written}

-- the text of clauses is an answer for the policy in a file
abbrev AnswersWith : (PolicyShape → RunFault → List ℕ → Type 0) → Filed → List ℕ → Type 0
AnswersWith A untold text = (file : List ℕ) × OverPolicy A file Nothing text
AnswersWith A missing text = ⊥
AnswersWith A (told file) text = OverPolicy A file Nothing text

encoded : (A : PolicyShape → RunFault → List ℕ → Type 0) (f : Filed) (e : EncoderShape) → EncodesFile A f (Ok e)
    → AnswersWith A f (dimacs_text e.variables e.all)
encoded A untold e h = h
encoded A missing e h = cc
encoded A (told file) e h = h

-- what is known of a run that has clauses, before they are written
pub record HasClauses (policy : List ℕ) (A : PolicyShape → RunFault → List ℕ → Type 0) (e : EncoderShape) (r : Run) : Type 0 where
  pub given : EncodesFile A (r.files policy) (Ok e)
  pub named : EndsTooLong POLICY_FILE_LIMIT (r.files policy) Nothing
  pub loads : r.load_faults_after ≡ r.load_faults
  pub reads : r.after.read_faults ≡ r.before.read_faults
  pub input : HasReadInput LINE_LIMIT r.before.input r.after.input
  pub untold : r.told ≡ nothing_told

over_all : (A : PolicyShape → RunFault → List ℕ → Type 0) (f : Filed) (before after : Option (List ℕ)) (text : List ℕ) → AnswersWith A f text
    → after ≡ with_bytes before text → OverFile f Nothing (λ file. Ends (OverPolicy A file) before after Nothing)
over_all A untold before after text h wrote = (h.0, (text, h.1, wrote))
over_all A missing before after text h wrote = absurd h
over_all A (told file) before after text h wrote = (text, h, wrote)

over_part : (A : PolicyShape → RunFault → List ℕ → Type 0) (f : Filed) (before after : Option (List ℕ)) (text : List ℕ) → AnswersWith A f text
    → HasPart before after text → OverFile f Write (λ file. Ends (OverPolicy A file) before after Write)
over_part A untold before after text h part = (h.0, (Nothing, text, tt, h.1, part))
over_part A missing before after text h part = absurd h
over_part A (told file) before after text h part = (Nothing, text, tt, h, part)

over_break : (A : PolicyShape → RunFault → List ℕ → Type 0) (f : Filed) (before after : Option (List ℕ)) (text : List ℕ) → AnswersWith A f text
    → HasPart before after text → OverFile f NoMemory (λ file. HasWritten (OverPolicy A file) before after)
over_break A untold before after text h part = (h.0, (text, h.1, part))
over_break A missing before after text h part = absurd h
over_break A (told file) before after text h part = (text, h, part)

-- all clauses are written
all_written : (policy : List ℕ) (A : Option (List ℕ) → PolicyShape → RunFault → List ℕ → Type 0) (e : EncoderShape) (r : Run)
    → HasClauses policy (A r.before.input) e r → r.fault ≡ Nothing
    → r.after.output ≡ with_bytes r.before.output (dimacs_text e.variables e.all) → r.after.write_faults ≡ r.before.write_faults
    → RunsOnce (Some LINE_LIMIT) policy A r
all_written policy A e r has is wrote writes = record {
  orderly = record { early = λ early. cc; loads = rw is has.loads; reads = rw is has.reads; writes = rw is writes };
  once = record {
    answer = rw is (over_all (A r.before.input) (r.files policy) r.before.output r.after.output _
        (encoded (A r.before.input) (r.files policy) e has.given) wrote);
    named = loaded POLICY_FILE_LIMIT (r.files policy) r.fault has.named;
    quiet = rw is tt;
    untold = has.untold;
    reads = rw is has.reads;
  };
  reads = rw is has.input;
}

-- writing failed
part_written : (policy : List ℕ) (A : Option (List ℕ) → PolicyShape → RunFault → List ℕ → Type 0) (e : EncoderShape) (r : Run)
    → HasClauses policy (A r.before.input) e r → r.fault ≡ Write
    → HasPart r.before.output r.after.output (dimacs_text e.variables e.all) → Rose r.before.write_faults r.after.write_faults
    → RunsOnce (Some LINE_LIMIT) policy A r
part_written policy A e r has is part rose = record {
  orderly = record { early = λ early. cc; loads = rw is has.loads; reads = rw is (let reads = has.reads in omega (arith, reads)); writes = rw is rose };
  once = record {
    answer = rw is (over_part (A r.before.input) (r.files policy) r.before.output r.after.output _
        (encoded (A r.before.input) (r.files policy) e has.given) part);
    named = loaded POLICY_FILE_LIMIT (r.files policy) r.fault has.named;
    quiet = rw is tt;
    untold = has.untold;
    reads = rw is has.reads;
  };
  reads = rw is has.input;
}

-- memory was lacking while they were written
broken_off : (policy : List ℕ) (A : PolicyShape → RunFault → List ℕ → Type 0) (e : EncoderShape) (r : Run) → HasClauses policy A e r → r.fault ≡ NoMemory
    → HasPart r.before.output r.after.output (dimacs_text e.variables e.all) → r.after.write_faults ≡ r.before.write_faults → BreaksOff policy A r
broken_off policy A e r has is part writes = record {
  orderly = record { early = λ early. cc; loads = rw is has.loads; reads = rw is (let reads = has.reads in omega (arith, reads)); writes = rw is writes };
  lacking = is;
  part = rw is (over_break A (r.files policy) r.before.output r.after.output _ (encoded A (r.files policy) e has.given) part);
  named = loaded POLICY_FILE_LIMIT (r.files policy) r.fault has.named;
  untold = has.untold;
  reads = has.reads;
  input = has.input;
}

-- the clauses are written as far as they are
pub written_so : (policy flow : List ℕ) (e : EncoderShape) (r : Run) (written : Result (Unit {0}) (Fault Failed))
    → HasClauses policy (λ p. ClausesAsked p flow r.before.input) e r → r.fault ≡ ending_written written
    → OnOk written (r.after.output ≡ with_bytes r.before.output (dimacs_text e.variables e.all))
    → HasPart r.before.output r.after.output (dimacs_text e.variables e.all)
    → (IsErrOf written not_written → Rose r.before.write_faults r.after.write_faults)
    → StaysUnlessUnwritten written r.before.write_faults r.after.write_faults → WritesClauses policy flow r
written_so policy flow e r (Ok done) has is all part rose stays =
    inl (all_written policy (λ seen p. ClausesAsked p flow seen) e r has is all stays)
written_so policy flow e r (Err (fault.Cause failed)) has is all part rose stays =
    inl (part_written policy (λ seen p. ClausesAsked p flow seen) e r has is part (rose refl))
written_so policy flow e r (Err fault.NoMemory) has is all part rose stays =
    inr (broken_off policy (λ p. ClausesAsked p flow r.before.input) e r has is part stays)

-- a run without clauses answers as one without an answer
unencoded : (A : PolicyShape → RunFault → List ℕ → Type 0) (f : Filed) (fault : RunFault) → EncodesFile A f (Err fault) → AnswersFile A f (Err fault)
unencoded A untold fault h = h
unencoded A missing fault h = cc
unencoded A (told file) fault h = h

pub none_written : (policy : List ℕ) (A : Option (List ℕ) → PolicyShape → RunFault → List ℕ → Type 0) (r : Run)
    → EncodesFile (A r.before.input) (r.files policy) (Err r.fault) → IsCommandEnding r.fault
    → EndsTooLong POLICY_FILE_LIMIT (r.files policy) r.fault → CountsLoads r.fault r.load_faults r.load_faults_after
    → CountsReadsAlone r.fault r.before.read_faults r.after.read_faults
    → ReadsInput (Some LINE_LIMIT) r.fault r.before.input r.after.input → WritesNothing r → RunsOnce (Some LINE_LIMIT) policy A r
none_written policy A r given ending named loads reads input nothing =
    without_answer (Some LINE_LIMIT) policy A r (unencoded (A r.before.input) (r.files policy) r.fault given) ending named loads reads input nothing

-- a model that was loaded is there, however the run ends
early_nothing : EndsEarly Nothing → ⊥
early_nothing (inl e) = cc
early_nothing (inr e) = cc

pub model_stays : (filed : Filed) (fault : RunFault) → EndsWithoutModel filed Nothing → EndsWithoutModel filed fault
model_stays untold fault h = tt
model_stays missing fault h = absurd (early_nothing h)
model_stays (told file) fault h = λ long. absurd (early_nothing (h long))

-- where no policy was loaded nothing is read
pub unread_clauses : (result : Result EncoderShape RunFault) (fault : RunFault) (left : Option (List ℕ)) → IsErrAnd result (λ e. e ≡ fault) → IsLoadEnding fault
    → ReadsInput (Some LINE_LIMIT) (fault_in result) left left
unread_clauses (Ok e) fault left is ending = absurd is
unread_clauses (Err e) fault left is ending = rw is (unread (Some LINE_LIMIT) fault left ending)
