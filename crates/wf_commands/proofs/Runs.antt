-- How the steps of a command that answers once compose.
use Rattle.std.proofs.Common.{◌≡◌, ℕ, Bool, true, false, List, [], Option, None, Some, Result, Ok, Err, refl, sym, subst, ◌∙◌, arith}
use Rattle.std.specs.Prelude.{IsErrAnd}
use Rattle.wf_names.specs.declared.limits.TheConstants.{POLICY_FILE_LIMIT}
use Rattle.wf_outside.specs.Laws.Outside.{Filed, told, missing, untold, HasPart, Rose, with_bytes}
use Rattle.wf_outside.proofs.OutsideLaws.{nothing_put, nothing_at_most}
use Rattle.policy_book.specs.Laws.Shapes.{PolicyShape}
use Rattle.run_record.specs.declared.fault.RunFault.{RunFault}
use Rattle.run_record.specs.declared.fault.RunFault.TheVariants.{Nothing, Write}
use Rattle.run_record.specs.Fault as ending
use Rattle.run_record.specs.Fault.{How, When, how_of, when_of, when_so, is_early, fault_in, is_before_input}
use Rattle.run_record.specs.Fault.{CountsLoads, CountsReads, CountsReadsAlone, CountsWrites, ReadsSo, ReadsSoAlone}
use Rattle.run_record.specs.Report.{nothing_told}
use Rattle.run_record.specs.Laws.Run.{Run, OverFile}
use Rattle.wf_commands.specs.declared.answer.Answer.{Answer}
use Rattle.wf_commands.specs.Once.{Ends, EndsSo, HasText, IsQuiet, OverPolicy, ReadsInput, ReadsUpTo, RunsOnce, WritesBy}
use Rattle.wf_commands.specs.Answer.{ending_with, AnswersAs, AnswersFile, EndsUnanswered, IsCommandEnding, RefusesSo}
use Rattle.wf_commands.specs.Load.{EndsLoading, EndsTooLong, IsLoadEnding}

-- ---- what is read

unread_so : (limit : ℕ) (how : How) (fault : RunFault) (left : Option (List ℕ)) → EndsLoading how → ReadsUpTo limit (when_so how fault) left left
unread_so limit ending.misfiled fault left ends = refl
unread_so limit ending.unloaded fault left ends = refl
unread_so limit ending.lacking fault left ends = nothing_at_most left _
unread_so limit how fault left ends = absurd ends

-- where no policy was loaded nothing is read
pub unread : (limit : Option ℕ) (fault : RunFault) (left : Option (List ℕ)) → IsLoadEnding fault → ReadsInput limit fault left left
unread None fault left ends = refl
unread (Some limit) fault left ends = unread_so limit (how_of fault) fault left ends

pub unread_after : (limit : Option ℕ) (result : Result Answer RunFault) (fault : RunFault) (left : Option (List ℕ))
    → IsErrAnd result (λ e. e ≡ fault) → IsLoadEnding fault → ReadsInput limit (fault_in result) left left
unread_after limit (Ok answer) fault left is ends = absurd is
unread_after limit (Err e) fault left is ends = rw is (unread limit fault left ends)

early_so : (limit : ℕ) (when : When) (before after : Option (List ℕ)) → is_early when ≡ true → ReadsUpTo limit when before after → after ≡ before
early_so limit ending.early before after is reads = reads
early_so limit when before after is reads = cc

pub early_unread : (limit : Option ℕ) (fault : RunFault) (before after : Option (List ℕ))
    → is_before_input fault ≡ true → ReadsInput limit fault before after → after ≡ before
early_unread None fault before after is reads = reads
early_unread (Some limit) fault before after is reads = early_so limit (when_of fault) before after is reads

-- ---- an ending without an answer

no_writes_so : (how : How) (before after : ℕ) → EndsUnanswered how → after ≡ before → ending.WritesSo how before after
no_writes_so ending.unasked before after ends same = absurd ends
no_writes_so ending.answered before after ends same = absurd ends
no_writes_so ending.unwritten before after ends same = absurd ends
no_writes_so how before after ends same = same

pub no_writes : (fault : RunFault) (before after : ℕ) → IsCommandEnding fault → after ≡ before → CountsWrites fault before after
no_writes fault before after ends same = no_writes_so (how_of fault) before after ends same

own_reads_so : (how : How) (before after : ℕ) → ReadsSoAlone how before after → ReadsSo how before after
own_reads_so ending.unwritten before after counts = omega arith
own_reads_so ending.lacking before after counts = omega arith
own_reads_so how before after counts = counts

-- where all is read before it is answered, reads are counted as in every run
pub own_reads : (fault : RunFault) (before after : ℕ) → CountsReadsAlone fault before after → CountsReads fault before after
own_reads fault before after counts = own_reads_so (how_of fault) before after counts

quiet_so : (how : How) (before after : Option (List ℕ)) → EndsUnanswered how → after ≡ before → WritesBy how before after
quiet_so ending.unasked before after ends same = absurd ends
quiet_so ending.answered before after ends same = absurd ends
quiet_so ending.unwritten before after ends same = absurd ends
quiet_so how before after ends same = same

pub quiet_refused : (fault : RunFault) (before after : Option (List ℕ)) → IsCommandEnding fault → after ≡ before → IsQuiet fault before after
quiet_refused fault before after ends same = quiet_so (how_of fault) before after ends same

ends_so : (A : RunFault → List ℕ → Type 0) (how : How) (fault : RunFault) (before after : Option (List ℕ))
    → EndsUnanswered how → RefusesSo how A fault → after ≡ before → EndsSo how A before after fault
ends_so A ending.misfiled fault before after ends h same = ([], h, same ∙ sym (nothing_put before))
ends_so A ending.refused fault before after ends h same = ([], h, same ∙ sym (nothing_put before))
ends_so A ending.unasked fault before after ends h same = absurd ends
ends_so A ending.answered fault before after ends h same = absurd ends
ends_so A ending.unwritten fault before after ends h same = absurd ends
ends_so A how fault before after ends h same = same

pub ends_refused : (A : RunFault → List ℕ → Type 0) (before after : Option (List ℕ)) (fault : RunFault)
    → IsCommandEnding fault → AnswersAs A (Err fault) → after ≡ before → Ends A before after fault
ends_refused A before after fault ends h same = ends_so A (how_of fault) fault before after ends h same

over_refused : (A : PolicyShape → RunFault → List ℕ → Type 0) (f : Filed) (before after : Option (List ℕ)) (fault : RunFault)
    → IsCommandEnding fault → AnswersFile A f (Err fault) → after ≡ before → OverFile f fault (λ file. Ends (OverPolicy A file) before after fault)
over_refused A untold before after fault ends h same = (h.0, ends_refused (OverPolicy A h.0) before after fault ends h.1 same)
over_refused A missing before after fault ends h same = cc
over_refused A (told file) before after fault ends h same = ends_refused (OverPolicy A file) before after fault ends h same

-- what is known of a run that writes nothing
pub record WritesNothing (r : Run) : Type 0 where
  pub output : r.after.output ≡ r.before.output
  pub writes : r.after.write_faults ≡ r.before.write_faults
  pub untold : r.told ≡ nothing_told

-- a run that ends without an answer
pub without_answer : (limit : Option ℕ) (policy : List ℕ) (A : Option (List ℕ) → PolicyShape → RunFault → List ℕ → Type 0) (r : Run)
    → AnswersFile (A r.before.input) (r.files policy) (Err r.fault) → IsCommandEnding r.fault → EndsTooLong POLICY_FILE_LIMIT (r.files policy) r.fault
    → CountsLoads r.fault r.load_faults r.load_faults_after → CountsReadsAlone r.fault r.before.read_faults r.after.read_faults
    → ReadsInput limit r.fault r.before.input r.after.input → WritesNothing r → RunsOnce limit policy A r
without_answer limit policy A r answer ends named loads reads input nothing = record {
  orderly = record {
    early = λ h. record { unread = early_unread limit r.fault r.before.input r.after.input h input; unwritten = nothing.output; untold = nothing.untold };
    loads = loads;
    reads = own_reads r.fault r.before.read_faults r.after.read_faults reads;
    writes = no_writes r.fault r.before.write_faults r.after.write_faults ends nothing.writes;
  };
  once = record {
    answer = over_refused (A r.before.input) (r.files policy) r.before.output r.after.output r.fault ends answer nothing.output;
    named = named;
    quiet = quiet_refused r.fault r.before.output r.after.output ends nothing.output;
    untold = nothing.untold;
    reads = reads;
  };
  reads = input;
}

-- ---- a run with an answer

ends_answered : (A : RunFault → List ℕ → Type 0) (before after : Option (List ℕ)) (found : Bool) (text : List ℕ) → A (ending_with found) text
    → after ≡ with_bytes before text → Ends A before after (ending_with found)
ends_answered A before after true text h wrote = (text, h, wrote)
ends_answered A before after false text h wrote = (text, h, wrote)

over_answered : (A : PolicyShape → RunFault → List ℕ → Type 0) (f : Filed) (before after : Option (List ℕ)) (answer : Answer) → AnswersFile A f (Ok answer)
    → after ≡ with_bytes before answer.text.items →
    OverFile f (ending_with answer.found) (λ file. Ends (OverPolicy A file) before after (ending_with answer.found))
over_answered A untold before after answer h wrote = (h.0, ends_answered (OverPolicy A h.0) before after answer.found answer.text.items h.1 wrote)
over_answered A missing before after answer h wrote = cc
over_answered A (told file) before after answer h wrote = ends_answered (OverPolicy A file) before after answer.found answer.text.items h wrote

answer_text : (found : Bool) → HasText (ending_with found)
answer_text true = tt
answer_text false = tt

over_part : (A : PolicyShape → RunFault → List ℕ → Type 0) (f : Filed) (before after : Option (List ℕ)) (answer : Answer) → AnswersFile A f (Ok answer)
    → HasPart before after answer.text.items → OverFile f Write (λ file. Ends (OverPolicy A file) before after Write)
over_part A untold before after answer h part = (h.0, (ending_with answer.found, answer.text.items, answer_text answer.found, h.1, part))
over_part A missing before after answer h part = cc
over_part A (told file) before after answer h part = (ending_with answer.found, answer.text.items, answer_text answer.found, h, part)

-- how a run ends that wrote its answer
answered_late : (found : Bool) → is_before_input (ending_with found) ≡ true → ⊥
answered_late true h = cc
answered_late false h = cc

answered_counts : (found : Bool) (before after : ℕ) → after ≡ before
    → CountsLoads (ending_with found) before after × CountsReadsAlone (ending_with found) before after × CountsWrites (ending_with found) before after
answered_counts true before after same = (same, same, same)
answered_counts false before after same = (same, same, same)

answered_quiet : (found : Bool) (before after : Option (List ℕ)) → IsQuiet (ending_with found) before after
answered_quiet true before after = tt
answered_quiet false before after = tt

answered_reads : (limit : Option ℕ) (found : Bool) (before after : Option (List ℕ)) → ReadsInput limit Nothing before after →
    ReadsInput limit (ending_with found) before after
answered_reads None found before after reads = reads
answered_reads (Some limit) true before after reads = reads
answered_reads (Some limit) false before after reads = reads

part_reads : (limit : Option ℕ) (before after : Option (List ℕ)) → ReadsInput limit Nothing before after → ReadsInput limit Write before after
part_reads None before after reads = reads
part_reads (Some limit) before after reads = reads

-- a policy that was loaded is not too long, however the run ends
pub loaded : (limit : ℕ) (f : Filed) (fault : RunFault) → EndsTooLong limit f Nothing → EndsTooLong limit f fault
loaded limit untold fault named = tt
loaded limit missing fault named = tt
loaded limit (told file) fault named = λ long. let never = named long in cc

-- what is known of a run that has an answer, before it is written
pub record HasAnswer (limit : Option ℕ) (policy : List ℕ) (A : Option (List ℕ) → PolicyShape → RunFault → List ℕ → Type 0) (answer : Answer) (r : Run) :
    Type 0 where
  pub given : AnswersFile (A r.before.input) (r.files policy) (Ok answer)
  pub named : EndsTooLong POLICY_FILE_LIMIT (r.files policy) Nothing
  pub loads : r.load_faults_after ≡ r.load_faults
  pub reads : r.after.read_faults ≡ r.before.read_faults
  pub input : ReadsInput limit Nothing r.before.input r.after.input
  pub untold : r.told ≡ nothing_told

pub with_answer : (limit : Option ℕ) (policy : List ℕ) (A : Option (List ℕ) → PolicyShape → RunFault → List ℕ → Type 0) (answer : Answer) (r : Run)
    → HasAnswer limit policy A answer r → r.fault ≡ ending_with answer.found
    → r.after.output ≡ with_bytes r.before.output answer.text.items → r.after.write_faults ≡ r.before.write_faults → RunsOnce limit policy A r
with_answer limit policy A answer r has is wrote writes = record {
  orderly = record {
    early = λ early. absurd (answered_late answer.found (subst (λ (x : RunFault). is_before_input x ≡ true) is early));
    loads = rw is (answered_counts answer.found r.load_faults r.load_faults_after has.loads).0;
    reads = rw is (own_reads (ending_with answer.found) r.before.read_faults r.after.read_faults
        (answered_counts answer.found r.before.read_faults r.after.read_faults has.reads).1);
    writes = rw is (answered_counts answer.found r.before.write_faults r.after.write_faults writes).2;
  };
  once = record {
    answer = rw is (over_answered (A r.before.input) (r.files policy) r.before.output r.after.output answer has.given wrote);
    named = loaded POLICY_FILE_LIMIT (r.files policy) r.fault has.named;
    quiet = rw is (answered_quiet answer.found r.before.output r.after.output);
    untold = has.untold;
    reads = rw is (answered_counts answer.found r.before.read_faults r.after.read_faults has.reads).1;
  };
  reads = rw is (answered_reads limit answer.found r.before.input r.after.input has.input);
}

pub with_part : (limit : Option ℕ) (policy : List ℕ) (A : Option (List ℕ) → PolicyShape → RunFault → List ℕ → Type 0) (answer : Answer) (r : Run)
    → HasAnswer limit policy A answer r → r.fault ≡ Write
    → HasPart r.before.output r.after.output answer.text.items → Rose r.before.write_faults r.after.write_faults → RunsOnce limit policy A r
with_part limit policy A answer r has is part rose = record {
  orderly = record {
    early = λ early. cc;
    loads = rw is has.loads;
    reads = rw is (let reads = has.reads in omega (arith, reads));
    writes = rw is rose;
  };
  once = record {
    answer = rw is (over_part (A r.before.input) (r.files policy) r.before.output r.after.output answer has.given part);
    named = loaded POLICY_FILE_LIMIT (r.files policy) r.fault has.named;
    quiet = rw is tt;
    untold = has.untold;
    reads = rw is has.reads;
  };
  reads = rw is (part_reads limit r.before.input r.after.input has.input);
}
