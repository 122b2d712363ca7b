-- What the ending of a step says of the ending of its run.
use Rattle.std.proofs.Common.{◌≡◌, ℕ, Bool, true, false, Result, Ok, Err, refl, subst}
use Rattle.std.specs.Prelude.{IsErrAnd, IfErr}
use Rattle.wf_outside.specs.Laws.Outside.{Filed}
use Rattle.run_record.specs.declared.fault.RunFault.{RunFault}
use Rattle.run_record.specs.declared.fault.RunFault.TheVariants.{Usage}
use Rattle.run_record.specs.Fault as ending
use Rattle.run_record.specs.Fault.{How, how_of, fault_in, CountsLoads, CountsReadsAlone, LoadsSo, ReadsSoAlone}
use Rattle.wf_commands.specs.Load.{EndsLoading, EndsTooLong, IsLoadEnding}
use Rattle.wf_commands.specs.Answer.{ending_with, EndsAnswering, EndsTelling, EndsUnanswered, IsAnswerEnding, IsCommandEnding, IsTellEnding}

-- ---- no input is read

telling_answers : (how : How) → EndsTelling how → EndsAnswering how
telling_answers ending.refused ends = tt
telling_answers ending.lacking ends = tt
telling_answers how ends = absurd ends

pub told_ending : {A : Type 0} (result : Result A RunFault) → IfErr result IsTellEnding → IfErr result IsAnswerEnding
told_ending (Ok a) ends = tt
told_ending (Err fault) ends = telling_answers (how_of fault) ends

telling_reads : (how : How) (count : ℕ) → EndsTelling how → ReadsSoAlone how count count
telling_reads ending.refused count ends = refl
telling_reads ending.lacking count ends = refl
telling_reads how count ends = absurd ends

pub told_reads : {A : Type 0} (result : Result A RunFault) (count : ℕ) → IfErr result IsTellEnding → CountsReadsAlone (fault_in result) count count
told_reads (Ok a) count ends = refl
told_reads (Err fault) count ends = telling_reads (how_of fault) count ends

-- ---- no policy was loaded

loading_unanswered : (how : How) → EndsLoading how → EndsUnanswered how
loading_unanswered ending.misfiled ends = tt
loading_unanswered ending.unloaded ends = tt
loading_unanswered ending.lacking ends = tt
loading_unanswered how ends = absurd ends

no_reads : (how : How) (count : ℕ) → EndsLoading how → ReadsSoAlone how count count
no_reads ending.misfiled count ends = refl
no_reads ending.unloaded count ends = refl
no_reads ending.lacking count ends = refl
no_reads how count ends = absurd ends

pub unloaded_ending : {A : Type 0} (result : Result A RunFault) (fault : RunFault) → IsErrAnd result (λ e. e ≡ fault)
    → IsLoadEnding fault → IfErr result IsCommandEnding
unloaded_ending (Ok a) fault is ends = absurd is
unloaded_ending (Err e) fault is ends = rw is (loading_unanswered (how_of fault) ends)

pub unloaded_named : {A : Type 0} (limit : ℕ) (f : Filed) (result : Result A RunFault) (fault : RunFault) → IsErrAnd result (λ e. e ≡ fault)
    → EndsTooLong limit f fault → EndsTooLong limit f (fault_in result)
unloaded_named limit f (Ok a) fault is named = absurd is
unloaded_named limit f (Err e) fault is named = rw is named

pub unloaded_loads : {A : Type 0} (result : Result A RunFault) (fault : RunFault) (before after : ℕ) → IsErrAnd result (λ e. e ≡ fault)
    → CountsLoads fault before after → CountsLoads (fault_in result) before after
unloaded_loads (Ok a) fault before after is loads = absurd is
unloaded_loads (Err e) fault before after is loads = rw is loads

pub unloaded_reads : {A : Type 0} (result : Result A RunFault) (fault : RunFault) (count : ℕ) → IsErrAnd result (λ e. e ≡ fault)
    → IsLoadEnding fault → CountsReadsAlone (fault_in result) count count
unloaded_reads (Ok a) fault count is ends = absurd is
unloaded_reads (Err e) fault count is ends = rw is (no_reads (how_of fault) count ends)

-- ---- a policy was loaded, and the command answered or was refused

answering_unanswered : (how : How) → EndsAnswering how → EndsUnanswered how
answering_unanswered ending.refused ends = tt
answering_unanswered ending.unread ends = tt
answering_unanswered ending.lacking ends = tt
answering_unanswered how ends = absurd ends

no_loads : (how : How) (before after : ℕ) → EndsAnswering how → after ≡ before → LoadsSo how before after
no_loads ending.refused before after ends same = same
no_loads ending.unread before after ends same = same
no_loads ending.lacking before after ends same = same
no_loads how before after ends same = absurd ends

pub loaded_ending : {A : Type 0} (result : Result A RunFault) → IfErr result IsAnswerEnding → IfErr result IsCommandEnding
loaded_ending (Ok a) ends = tt
loaded_ending (Err e) ends = answering_unanswered (how_of e) ends

pub loaded_loads : {A : Type 0} (result : Result A RunFault) (before after : ℕ) → IfErr result IsAnswerEnding → after ≡ before
    → CountsLoads (fault_in result) before after
loaded_loads (Ok a) before after ends same = same
loaded_loads (Err e) before after ends same = no_loads (how_of e) before after ends same

-- no ending of these is that of words that are no command
pub answered_usage : (found : Bool) → ending_with found ≡ Usage → ⊥
answered_usage true is = cc
answered_usage false is = cc

pub unanswered_usage : (fault : RunFault) → IsCommandEnding fault → fault ≡ Usage → ⊥
unanswered_usage fault ends is = subst IsCommandEnding is ends
