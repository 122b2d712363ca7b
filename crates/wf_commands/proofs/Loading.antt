-- What loading gives, and how an answer stands over the file of its policy.
use Rattle.std.proofs.Common.{◌≡◌, ℕ, ◌+◌, ◌<◌, ◌≤◌, List, [], length, replicate, Result, Ok, Err, refl, subst, arith}
use Rattle.std.proofs.lemmas.Bool.{le-ltb}
use Rattle.std.proofs.lemmas.List.{length-replicate}
use Rattle.std.specs.Prelude.{IsErrAnd}
use Rattle.wf_names.specs.declared.limits.TheConstants.{POLICY_FILE_LIMIT}
use Rattle.wf_outside.specs.declared.loaded.LoadFault.{LoadFault}
use Rattle.wf_outside.specs.declared.loaded.LoadFault.TheVariants.{Failed, TooLong}
use Rattle.wf_outside.specs.declared.loaded.LoadFault.TheVariants as load
use Rattle.wf_outside.specs.Laws.Outside.{Filed, told, missing, untold, LoadsAs, LoadsFile}
use Rattle.policy_book.specs.Laws.Shapes.{PolicyShape}
use Rattle.policy_reader.specs.Files.{policy_of_file}
use Rattle.run_record.specs.declared.fault.RunFault.{RunFault}
use Rattle.run_record.specs.declared.fault.RunFault.TheVariants.{Load, NoMemory, FileTooLong}
use Rattle.run_record.specs.Fault.{How, unloaded, unread, lacking, how_of}
use Rattle.wf_commands.specs.declared.answer.Answer.{Answer}
use Rattle.wf_commands.specs.Once.{OverPolicy}
use Rattle.wf_commands.specs.Answer.{AnswersAs, AnswersFile, RefusesSo}
use Rattle.wf_commands.specs.Load.{BytesOf, EndsTooLong, GivesBytes, GivesPolicy, PolicyOf}

-- some bytes are more than the limit
pub some_longer : (limit : ℕ) → (file : List ℕ) × limit < length file
some_longer limit = (replicate (limit + 1) 0, omega (arith, length-replicate {A = ℕ} (limit + 1) 0))

-- a file is too long
pub too_long_given : (limit : ℕ) (f : Filed) (e : LoadFault) → e ≡ TooLong → LoadsAs f limit (Err e) → GivesBytes limit f (Err FileTooLong)
too_long_given limit untold e is loads = some_longer limit
too_long_given limit missing e is loads = cc
too_long_given limit (told file) e is loads = subst (λ (x : LoadFault). LoadsFile file limit (Err x)) is loads

-- a file was not loaded, or there was no memory for it: it is not too long
pub failed_given : (limit : ℕ) (f : Filed) (e : LoadFault) → e ≡ Failed → LoadsAs f limit (Err e) → GivesBytes limit f (Err Load)
failed_given limit untold e is loads = ([], omega arith)
failed_given limit missing e is loads = refl
failed_given limit (told file) e is loads = subst (λ (x : LoadFault). LoadsFile file limit (Err x)) is loads

pub lacking_given : (limit : ℕ) (f : Filed) (e : LoadFault) → e ≡ load.NoMemory → LoadsAs f limit (Err e) → GivesBytes limit f (Err NoMemory)
lacking_given limit untold e is loads = ([], omega arith)
lacking_given limit missing e is loads = cc
lacking_given limit (told file) e is loads = subst (λ (x : LoadFault). LoadsFile file limit (Err x)) is loads

-- and so a told file that is too long ends the loading so alone
pub too_long_named : (limit : ℕ) (f : Filed) → EndsTooLong limit f FileTooLong
too_long_named limit untold = tt
too_long_named limit missing = tt
too_long_named limit (told file) = λ long. refl

pub other_named : (limit : ℕ) (f : Filed) (e : LoadFault) (fault : RunFault) → (e ≡ TooLong → ⊥) → LoadsAs f limit (Err e) → EndsTooLong limit f fault
other_named limit untold e fault other loads = tt
other_named limit missing e fault other loads = tt
other_named limit (told file) Failed fault other loads = λ long. let short : length file ≤ limit = loads in absurd (omega arith)
other_named limit (told file) load.NoMemory fault other loads = λ long. let short : length file ≤ limit = loads in absurd (omega arith)
other_named limit (told file) TooLong fault other loads = absurd (other refl)

-- a file that was not loaded gives no policy
unloaded_file : (file : List ℕ) (fault : RunFault) → BytesOf POLICY_FILE_LIMIT file (Err fault) → PolicyOf file (Err fault)
unloaded_file file FileTooLong gives = gives
unloaded_file file Load gives = gives
unloaded_file file NoMemory gives = gives
unloaded_file file fault gives = absurd gives

unloaded_gives : (f : Filed) (fault : RunFault) → GivesBytes POLICY_FILE_LIMIT f (Err fault) → GivesPolicy f (Err fault)
unloaded_gives untold fault gives = (gives.0, unloaded_file gives.0 fault gives.1)
unloaded_gives missing fault gives = cc
unloaded_gives (told file) fault gives = unloaded_file file fault gives

pub unloaded_policy : (f : Filed) (result : Result PolicyShape RunFault) (fault : RunFault) → IsErrAnd result (λ e. e ≡ fault)
    → GivesBytes POLICY_FILE_LIMIT f (Err fault) → GivesPolicy f result
unloaded_policy f (Ok p) fault is gives = absurd is
unloaded_policy f (Err e) fault is gives = rw is (unloaded_gives f fault gives)

pub policy_named : (f : Filed) (p : PolicyShape) (fault : RunFault) → GivesPolicy f (Ok p) → EndsTooLong POLICY_FILE_LIMIT f fault
policy_named untold p fault gives = tt
policy_named missing p fault gives = tt
policy_named (told file) p fault gives = λ long. let short : length file ≤ POLICY_FILE_LIMIT = gives.0 in absurd (omega arith)

over : (A : PolicyShape → RunFault → List ℕ → Type 0) (file : List ℕ) (p : PolicyShape) (fault : RunFault) (text : List ℕ)
    → length file ≤ POLICY_FILE_LIMIT → policy_of_file file ≡ Ok p → A p fault text → OverPolicy A file fault text
over A file p fault text within read h = rw (le-ltb POLICY_FILE_LIMIT (length file) within, read) h

over_refusal : (A : PolicyShape → RunFault → List ℕ → Type 0) (file : List ℕ) (p : PolicyShape) (how : How) (fault : RunFault)
    → length file ≤ POLICY_FILE_LIMIT → policy_of_file file ≡ Ok p → RefusesSo how (A p) fault → RefusesSo how (OverPolicy A file) fault
over_refusal A file p unloaded fault within read h = tt
over_refusal A file p unread fault within read h = tt
over_refusal A file p lacking fault within read h = tt
over_refusal A file p how fault within read h = over A file p _ _ within read h

over_result : (A : PolicyShape → RunFault → List ℕ → Type 0) (file : List ℕ) (p : PolicyShape) (result : Result Answer RunFault)
    → length file ≤ POLICY_FILE_LIMIT → policy_of_file file ≡ Ok p → AnswersAs (A p) result → AnswersAs (OverPolicy A file) result
over_result A file p (Ok answer) within read h = over A file p _ _ within read h
over_result A file p (Err fault) within read h = over_refusal A file p (how_of fault) fault within read h

-- an answer about a policy that a file gave
pub answers_file : (A : PolicyShape → RunFault → List ℕ → Type 0) (f : Filed) (p : PolicyShape) (result : Result Answer RunFault)
    → GivesPolicy f (Ok p) → ((file : List ℕ) → policy_of_file file ≡ Ok p → AnswersAs (A p) result) → AnswersFile A f result
answers_file A untold p result gives h =
    (gives.0, over_result A gives.0 p result gives.1.0 gives.1.1 (h gives.0 gives.1.1))
answers_file A missing p result gives h = cc
answers_file A (told file) p result gives h = over_result A file p result gives.0 gives.1 (h file gives.1)
