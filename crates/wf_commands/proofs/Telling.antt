-- How the answers for a case follow from what the steps of a run give.
use Rattle.std.proofs.Common.{◌≡◌, ℕ, ◌<◌, ◌≤◌, Bool, true, false, List, [], length, Option, None, Some, Result, Ok, Err, refl, ap, ap₂, subst}
use Rattle.std.specs.Prelude.{IfSome, IsErrAnd, nat_lt}
use Rattle.std.proofs.lemmas.Bool.{le-ltb, lt-ltb}
use Rattle.wf_names.specs.declared.limits.TheConstants.{LINE_LIMIT, POLICY_FILE_LIMIT}
use Rattle.wf_outside.specs.Laws.Outside.{Filed, told, missing, untold}
use Rattle.policy_book.specs.Laws.Shapes.{PolicyShape}
use Rattle.policy_book.specs.Policies.{problem_of}
use Rattle.cnf_export.specs.Laws.Encodings.{literals, variables_of}
use Rattle.cnf_export.specs.Encoders.{EncoderShape}
use Rattle.cnf_export.specs.Models.{AreSound}
use Rattle.cnf_export.specs.declared.tally.TheConstants.{LITERAL_LIMIT}
use Rattle.cnf_export.specs.Saying.{has_variable}
use Rattle.cnf_export.specs.ModelLaws.{SatisfiableIsCompletable}
use Rattle.cnf_export.specs.ModelText.{model_of_text}
use Rattle.cnf_export.specs.Text.{dimacs_text}
use Rattle.run_record.specs.declared.fault.RunFault.{RunFault}
use Rattle.run_record.specs.declared.fault.RunFault.TheVariants.{Nothing, Found, Usage, Policy, Read, Write, Load, NoMemory, FileTooLong, LineTooLong}
use Rattle.run_record.specs.declared.fault.RunFault.TheVariants.{TooManyLines, BadInput, TooLarge}
use Rattle.run_record.specs.declared.fault.InputFault.TheVariants.{Model}
use Rattle.run_record.specs.Fault.{How, unloaded, unread, lacking, how_of}
use Rattle.wf_commands.specs.declared.answer.Answer.{Answer}
use Rattle.wf_commands.specs.Answer.{ending_with, AnswersAs, AnswersFile, RefusesSo}
use Rattle.wf_commands.specs.Input.{number_named}
use Rattle.wf_commands.specs.Once.{OverPolicy}
use Rattle.wf_commands.specs.Load.{BytesOf, GivesBytes, GivesPolicy, IsLoadEnding, PolicyOf}
use Rattle.wf_commands.proofs.Loading.{answers_file}
use Rattle.wf_commands.specs.declared.case.Case.{Case}
use Rattle.wf_commands.specs.declared.model_file.TheConstants.{MODEL_FILE_LIMIT}
use Rattle.wf_commands.specs.Cases.{IsCaseOf}
use Rattle.wf_commands.specs.CnfAnswers.{clauses_for, ClausesAsked, ModelAsked, OverCase, OverModel, OverText, ReadsModel, TellsClauses}
use Rattle.wf_commands.specs.CnfAnswers.{TellsReading, UnlessLarge}
use Rattle.wf_commands.specs.CnfSteps.{EncodesAs, EncodesFile, GivesCase, GivesEncoder, GivesModel, IsCaseEnding}

-- ---- in general

-- what is refused in one sense is in another
pub refuses_by : (A B : RunFault → List ℕ → Type 0) (how : How) (fault : RunFault) → (A fault [] → B fault []) → RefusesSo how A fault → RefusesSo how B fault
refuses_by A B unloaded fault to h = tt
refuses_by A B unread fault to h = tt
refuses_by A B lacking fault to h = tt
refuses_by A B how fault to h = to h

-- answers in one sense are answers in another
pub answers_by : (A B : RunFault → List ℕ → Type 0) (result : Result Answer RunFault) → ((fault : RunFault) (text : List ℕ) → A fault text → B fault text)
    → AnswersAs A result → AnswersAs B result
answers_by A B (Ok answer) to h = to (ending_with answer.found) answer.text.items h
answers_by A B (Err fault) to h = refuses_by A B (how_of fault) fault (to fault []) h

pub answers_failed : (A : RunFault → List ℕ → Type 0) (result : Result Answer RunFault) (fault : RunFault) → IsErrAnd result (λ e. e ≡ fault)
    → RefusesSo (how_of fault) A fault → AnswersAs A result
answers_failed A (Ok answer) fault is h = absurd is
answers_failed A (Err e) fault is h = rw is h

pub encodes_failed : (A : RunFault → List ℕ → Type 0) (result : Result EncoderShape RunFault) (fault : RunFault) → IsErrAnd result (λ e. e ≡ fault)
    → RefusesSo (how_of fault) A fault → EncodesAs A result
encodes_failed A (Ok e) fault is h = absurd is
encodes_failed A (Err e) fault is h = rw is h

-- ---- the case in the input

over_case : (p : PolicyShape) (f : ℕ) (input : List ℕ) (c : Case) (A : Case → RunFault → List ℕ → Type 0) (fault : RunFault) (text : List ℕ)
    → GivesCase p f input (Ok c) → A c fault text → OverCase p f A input fault text
over_case p f input c A fault text given h = rw (le-ltb LINE_LIMIT (length input) given.0, given.1) h

-- the answers about a case are answers about its input
pub over_told : (p : PolicyShape) (f : ℕ) (seen : Option (List ℕ)) (c : Case) (A : Case → RunFault → List ℕ → Type 0) (fault : RunFault) (text : List ℕ)
    → IfSome seen (λ input. GivesCase p f input (Ok c)) → A c fault text → IfSome seen (λ input. OverCase p f A input fault text)
over_told p f None c A fault text given h = tt
over_told p f (Some input) c A fault text given h = over_case p f input c A fault text given h

too_long : (p : PolicyShape) (f : ℕ) (A : Case → RunFault → List ℕ → Type 0) (input : List ℕ) (line : ℕ) → GivesCase p f input (Err (LineTooLong line))
    → OverCase p f A input (LineTooLong line) []
too_long p f A input line given = rw (lt-ltb LINE_LIMIT (length input) given.0) (ap LineTooLong given.1, refl)

-- an input that is no case is refused
pub case_refused : (p : PolicyShape) (f : ℕ) (seen : Option (List ℕ)) (fault : RunFault) (A : Case → RunFault → List ℕ → Type 0)
    → IfSome seen (λ input. GivesCase p f input (Err fault)) → IsCaseEnding fault
    → RefusesSo (how_of fault) (λ fault text. IfSome seen (λ input. OverCase p f A input fault text)) fault
case_refused p f seen Read A given ending = tt
case_refused p f seen NoMemory A given ending = tt
case_refused p f None (LineTooLong line) A given ending = tt
case_refused p f (Some input) (LineTooLong line) A given ending = too_long p f A input line given
case_refused p f None (BadInput e) A given ending = tt
case_refused p f (Some input) (BadInput e) A given ending = rw (le-ltb LINE_LIMIT (length input) given.0, given.1) (refl, refl)
case_refused p f seen Nothing A given ending = absurd ending
case_refused p f seen Found A given ending = absurd ending
case_refused p f seen Usage A given ending = absurd ending
case_refused p f seen (Policy e) A given ending = absurd ending
case_refused p f seen Write A given ending = absurd ending
case_refused p f seen Load A given ending = absurd ending
case_refused p f seen FileTooLong A given ending = absurd ending
case_refused p f seen TooManyLines A given ending = absurd ending
case_refused p f seen TooLarge A given ending = absurd ending

-- ---- the clauses

few_literals : (p : PolicyShape) (f : ℕ) (c : Case) (A : RunFault → List ℕ → Type 0) (fault : RunFault) (text : List ℕ)
    → literals (clauses_for p f c) ≤ LITERAL_LIMIT → A fault text → UnlessLarge p f c A fault text
few_literals p f c A fault text few h = rw (le-ltb LITERAL_LIMIT (literals (clauses_for p f c)) few) h

many_literals : (p : PolicyShape) (f : ℕ) (c : Case) (A : RunFault → List ℕ → Type 0) → LITERAL_LIMIT < literals (clauses_for p f c)
    → UnlessLarge p f c A TooLarge []
many_literals p f c A many = rw (lt-ltb LITERAL_LIMIT (literals (clauses_for p f c)) many) (refl, refl)

-- clauses that are too large are refused
pub large_refused : (p : PolicyShape) (f : ℕ) (c : Case) (A : RunFault → List ℕ → Type 0) (fault : RunFault) → GivesEncoder p f c (Err fault)
    → RefusesSo (how_of fault) (UnlessLarge p f c A) fault
large_refused p f c A TooLarge given = many_literals p f c A given
large_refused p f c A NoMemory given = tt
large_refused p f c A fault given = absurd given

clauses_written : (p : PolicyShape) (f : ℕ) (c : Case) (e : EncoderShape) → SatisfiableIsCompletable → AreSound (problem_of p f) → IsCaseOf (problem_of p f) c
    → GivesEncoder p f c (Ok e) → TellsClauses p f c Nothing (dimacs_text e.variables e.all)
clauses_written p f c e law sound known given = record {
  well = refl;
  whole = ap₂ dimacs_text given.1.1 given.1.0;
  decides = law (problem_of p f) c.assigned c.finished sound known.within known.all_assigned;
}

-- the answers about the case in the input
abbrev AboutCase : PolicyShape → ℕ → Option (List ℕ) → (Case → RunFault → List ℕ → Type 0) → RunFault → List ℕ → Type 0
AboutCase p f seen A fault text = IfSome seen (λ input. OverCase p f A input fault text)

abbrev ClausesOf : PolicyShape → ℕ → Case → RunFault → List ℕ → Type 0
ClausesOf p f c fault text = UnlessLarge p f c (TellsClauses p f c) fault text

asked_clauses : (p : PolicyShape) (word : List ℕ) (f : ℕ) (seen : Option (List ℕ)) (fault : RunFault) (text : List ℕ) → number_named p.flow_names word ≡ Some f
    → AboutCase p f seen (ClausesOf p f) fault text → ClausesAsked p word seen fault text
asked_clauses p word f seen fault text named h = rw named h

pub encodes_case : (p : PolicyShape) (word : List ℕ) (f : ℕ) (c : Case) (seen : Option (List ℕ)) (result : Result EncoderShape RunFault)
    → number_named p.flow_names word ≡ Some f
    → SatisfiableIsCompletable → AreSound (problem_of p f) → IsCaseOf (problem_of p f) c → IfSome seen (λ input. GivesCase p f input (Ok c))
    → GivesEncoder p f c result
    → EncodesAs (ClausesAsked p word seen) result
encodes_case p word f c seen (Ok e) named law sound known taken given =
    let text = dimacs_text e.variables e.all in
    asked_clauses p word f seen Nothing text named
    (over_told p f seen c (ClausesOf p f) Nothing text taken
    (few_literals p f c (TellsClauses p f c) Nothing text given.0 (clauses_written p f c e law sound known given)))
encodes_case p word f c seen (Err fault) named law sound known taken given =
    refuses_by (UnlessLarge p f c (TellsClauses p f c)) (ClausesAsked p word seen) (how_of fault) fault
    (λ h. asked_clauses p word f seen fault [] named (over_told p f seen c (ClausesOf p f) fault [] taken h))
    (large_refused p f c (TellsClauses p f c) fault given)

pub encodes_no_case : (p : PolicyShape) (word : List ℕ) (f : ℕ) (seen : Option (List ℕ)) (result : Result EncoderShape RunFault) (fault : RunFault)
    → IsErrAnd result (λ e. e ≡ fault)
    → number_named p.flow_names word ≡ Some f → IfSome seen (λ input. GivesCase p f input (Err fault)) → IsCaseEnding fault
    → EncodesAs (ClausesAsked p word seen) result
encodes_no_case p word f seen result fault is named given ending =
    encodes_failed (ClausesAsked p word seen) result fault is
    (refuses_by (AboutCase p f seen (ClausesOf p f)) (ClausesAsked p word seen) (how_of fault) fault
    (λ h. asked_clauses p word f seen fault [] named h) (case_refused p f seen fault (ClausesOf p f) given ending))

-- ---- the policy in a file

over : (A : PolicyShape → RunFault → List ℕ → Type 0) (file : List ℕ) (p : PolicyShape) (e : EncoderShape) → PolicyOf file (Ok p) → EncodesAs (A p) (Ok e)
    → EncodesAs (OverPolicy A file) (Ok e)
over A file p e gives h = rw (le-ltb POLICY_FILE_LIMIT (length file) gives.0, gives.1) h

pub encodes_file : (A : PolicyShape → RunFault → List ℕ → Type 0) (f : Filed) (p : PolicyShape) (result : Result EncoderShape RunFault)
    → GivesPolicy f (Ok p) → EncodesAs (A p) result → EncodesFile A f result
encodes_file A missing p result gives h = cc
encodes_file A untold p (Ok e) gives h = (gives.0, over A gives.0 p e gives.1 h)
encodes_file A untold p (Err fault) gives h = answers_file A untold p (Err fault) gives (λ file read. h)
encodes_file A (told file) p (Ok e) gives h = over A file p e gives h
encodes_file A (told file) p (Err fault) gives h = answers_file A (told file) p (Err fault) gives (λ file read. h)

-- no policy was there
pub policy_refused : (A : PolicyShape → RunFault → List ℕ → Type 0) (file : List ℕ) (fault : RunFault) → PolicyOf file (Err fault) → IsLoadEnding fault
    → RefusesSo (how_of fault) (OverPolicy A file) fault
policy_refused A file FileTooLong gives ending = rw (lt-ltb POLICY_FILE_LIMIT (length file) gives) (refl, refl)
policy_refused A file (Policy e) gives ending = rw (le-ltb POLICY_FILE_LIMIT (length file) gives.0, gives.1) (refl, refl)
policy_refused A file Load gives ending = tt
policy_refused A file NoMemory gives ending = tt
policy_refused A file fault gives ending = absurd ending

encodes_none : (A : PolicyShape → RunFault → List ℕ → Type 0) (f : Filed) (fault : RunFault) → GivesPolicy f (Err fault) → IsLoadEnding fault
    → EncodesFile A f (Err fault)
encodes_none A untold fault gives ending = (gives.0, policy_refused A gives.0 fault gives.1 ending)
encodes_none A missing fault gives ending = cc
encodes_none A (told file) fault gives ending = policy_refused A file fault gives ending

pub encodes_no_policy : (A : PolicyShape → RunFault → List ℕ → Type 0) (f : Filed) (result : Result EncoderShape RunFault) (fault : RunFault)
    → IsErrAnd result (λ e. e ≡ fault)
    → GivesPolicy f (Err fault) → IsLoadEnding fault → EncodesFile A f result
encodes_no_policy A f (Ok x) fault is gives ending = absurd is
encodes_no_policy A f (Err e) fault is gives ending = rw is (encodes_none A f fault gives ending)

answers_none : (A : PolicyShape → RunFault → List ℕ → Type 0) (f : Filed) (fault : RunFault) → GivesPolicy f (Err fault) → IsLoadEnding fault
    → AnswersFile A f (Err fault)
answers_none A untold fault gives ending = (gives.0, policy_refused A gives.0 fault gives.1 ending)
answers_none A missing fault gives ending = cc
answers_none A (told file) fault gives ending = policy_refused A file fault gives ending

pub answers_no_policy : (A : PolicyShape → RunFault → List ℕ → Type 0) (f : Filed) (result : Result Answer RunFault) (fault : RunFault)
    → IsErrAnd result (λ e. e ≡ fault)
    → GivesPolicy f (Err fault) → IsLoadEnding fault → AnswersFile A f result
answers_no_policy A f (Ok x) fault is gives ending = absurd is
answers_no_policy A f (Err e) fault is gives ending = rw is (answers_none A f fault gives ending)

-- ---- the model

large_by : (p : PolicyShape) (f : ℕ) (c : Case) (A B : RunFault → List ℕ → Type 0) (fault : RunFault) (text : List ℕ) (large : Bool)
    → nat_lt LITERAL_LIMIT (literals (clauses_for p f c)) ≡ large → (A fault text → B fault text) → UnlessLarge p f c A fault text
    → UnlessLarge p f c B fault text
large_by p f c A B fault text true is to h = rw is (rw is at h)
large_by p f c A B fault text false is to h = rw is (to (rw is at h))

word_refused : (p : PolicyShape) (f : ℕ) (c : Case) (text : List ℕ) (fault : RunFault) → GivesModel (variables_of (problem_of p f)) text (Err fault)
    → RefusesSo (how_of fault) (ReadsModel p f text c) fault
word_refused p f c text (BadInput (Model k)) given = rw given (refl, refl)
word_refused p f c text NoMemory given = tt
word_refused p f c text fault given = absurd given

-- the clauses are too large
pub answers_large : (p : PolicyShape) (f : ℕ) (c : Case) (A : RunFault → List ℕ → Type 0) (result : Result Answer RunFault) (fault : RunFault)
    → IsErrAnd result (λ e. e ≡ fault)
    → GivesEncoder p f c (Err fault) → AnswersAs (UnlessLarge p f c A) result
answers_large p f c A result fault is given = answers_failed (UnlessLarge p f c A) result fault is (large_refused p f c A fault given)

-- the text has a word that is none
pub answers_word : (p : PolicyShape) (f : ℕ) (c : Case) (text : List ℕ) (result : Result Answer RunFault) (fault : RunFault) → IsErrAnd result (λ e. e ≡ fault)
    → literals (clauses_for p f c) ≤ LITERAL_LIMIT → GivesModel (variables_of (problem_of p f)) text (Err fault)
    → AnswersAs (UnlessLarge p f c (ReadsModel p f text c)) result
answers_word p f c text result fault is few given =
    answers_failed (UnlessLarge p f c (ReadsModel p f text c)) result fault is
    (refuses_by (ReadsModel p f text c) (UnlessLarge p f c (ReadsModel p f text c)) (how_of fault) fault
    (few_literals p f c (ReadsModel p f text c) fault [] few) (word_refused p f c text fault given))

-- what a model says is what its text says
pub answers_model : (p : PolicyShape) (f : ℕ) (c : Case) (text : List ℕ) (flags : List Bool) (result : Result Answer RunFault)
    → model_of_text (variables_of (problem_of p f)) text ≡ Ok flags
    → AnswersAs (UnlessLarge p f c (TellsReading p f c (has_variable flags))) result → AnswersAs (UnlessLarge p f c (ReadsModel p f text c)) result
answers_model p f c text flags result read h =
    answers_by (UnlessLarge p f c (TellsReading p f c (has_variable flags))) (UnlessLarge p f c (ReadsModel p f text c)) result
    (λ fault line. large_by p f c (TellsReading p f c (has_variable flags)) (ReadsModel p f text c) fault line
    (nat_lt LITERAL_LIMIT (literals (clauses_for p f c))) refl (λ says. rw read says)) h

over_text : (A : List ℕ → RunFault → List ℕ → Type 0) (file bytes : List ℕ) (fault : RunFault) (text : List ℕ) → BytesOf MODEL_FILE_LIMIT file (Ok bytes)
    → A bytes fault text → OverText A file fault text
over_text A file bytes fault text gives h = rw (le-ltb MODEL_FILE_LIMIT (length file) gives.0) (subst (λ (x : List ℕ). A x fault text) gives.1 h)

over_model : (A : List ℕ → RunFault → List ℕ → Type 0) (filed : Filed) (bytes : List ℕ) (fault : RunFault) (text : List ℕ)
    → GivesBytes MODEL_FILE_LIMIT filed (Ok bytes) → A bytes fault text
    → OverModel A filed fault text
over_model A untold bytes fault text gives h = (gives.0, over_text A gives.0 bytes fault text gives.1 h)
over_model A missing bytes fault text gives h = cc
over_model A (told file) bytes fault text gives h = over_text A file bytes fault text gives h

model_too_long : (A : List ℕ → RunFault → List ℕ → Type 0) (filed : Filed) → GivesBytes MODEL_FILE_LIMIT filed (Err FileTooLong)
    → OverModel A filed FileTooLong []
model_too_long A untold gives = (gives.0, rw (lt-ltb MODEL_FILE_LIMIT (length gives.0) gives.1) (refl, refl))
model_too_long A missing gives = cc
model_too_long A (told file) gives = rw (lt-ltb MODEL_FILE_LIMIT (length file) gives) (refl, refl)

no_policy_there : (filed : Filed) (limit : ℕ) (fault : RunFault) → ((file : List ℕ) → BytesOf limit file (Err fault) → ⊥) → (fault ≡ Load → ⊥)
    → GivesBytes limit filed (Err fault) → ⊥
no_policy_there untold limit fault never other gives = never gives.0 gives.1
no_policy_there missing limit fault never other gives = other (let is = gives in cc)
no_policy_there (told file) limit fault never other gives = never file gives

model_refused : (A : List ℕ → RunFault → List ℕ → Type 0) (filed : Filed) (fault : RunFault) → GivesBytes MODEL_FILE_LIMIT filed (Err fault)
    → IsLoadEnding fault
    → RefusesSo (how_of fault) (OverModel A filed) fault
model_refused A filed FileTooLong gives ending = model_too_long A filed gives
model_refused A filed Load gives ending = tt
model_refused A filed NoMemory gives ending = tt
model_refused A filed (Policy e) gives ending = absurd (no_policy_there filed MODEL_FILE_LIMIT (Policy e) (λ file h. h) (λ is. cc) gives)
model_refused A filed fault gives ending = absurd ending

abbrev ModelOf : PolicyShape → ℕ → List ℕ → Case → RunFault → List ℕ → Type 0
ModelOf p f model c fault text = UnlessLarge p f c (ReadsModel p f model c) fault text

abbrev AboutModel : PolicyShape → ℕ → Option (List ℕ) → List ℕ → RunFault → List ℕ → Type 0
AboutModel p f seen model fault text = AboutCase p f seen (ModelOf p f model) fault text

asked_model : (p : PolicyShape) (word : List ℕ) (f : ℕ) (filed : Filed) (seen : Option (List ℕ)) (fault : RunFault) (text : List ℕ)
    → number_named p.flow_names word ≡ Some f
    → OverModel (AboutModel p f seen) filed fault text → ModelAsked p word filed seen fault text
asked_model p word f filed seen fault text named h = rw named h

-- the model was not loaded
pub answers_no_model : (p : PolicyShape) (word : List ℕ) (f : ℕ) (filed : Filed) (seen : Option (List ℕ)) (result : Result Answer RunFault)
    (fault : RunFault) → IsErrAnd result (λ e. e ≡ fault)
    → number_named p.flow_names word ≡ Some f → GivesBytes MODEL_FILE_LIMIT filed (Err fault) → IsLoadEnding fault
    → AnswersAs (ModelAsked p word filed seen) result
answers_no_model p word f filed seen result fault is named gives ending =
    answers_failed (ModelAsked p word filed seen) result fault is
    (refuses_by (OverModel (AboutModel p f seen) filed) (ModelAsked p word filed seen) (how_of fault) fault
    (λ h. asked_model p word f filed seen fault [] named h) (model_refused (AboutModel p f seen) filed fault gives ending))

-- the input is no case
pub answers_no_case : (p : PolicyShape) (word : List ℕ) (f : ℕ) (filed : Filed) (bytes : List ℕ) (seen : Option (List ℕ)) (result : Result Answer RunFault)
    (fault : RunFault) → IsErrAnd result (λ e. e ≡ fault)
    → number_named p.flow_names word ≡ Some f → GivesBytes MODEL_FILE_LIMIT filed (Ok bytes) → IfSome seen (λ input. GivesCase p f input (Err fault))
    → IsCaseEnding fault
    → AnswersAs (ModelAsked p word filed seen) result
answers_no_case p word f filed bytes seen result fault is named gives given ending =
    answers_failed (ModelAsked p word filed seen) result fault is
    (refuses_by (AboutModel p f seen bytes) (ModelAsked p word filed seen) (how_of fault) fault
    (λ h. asked_model p word f filed seen fault [] named (over_model (AboutModel p f seen) filed bytes fault [] gives h))
    (case_refused p f seen fault (ModelOf p f bytes) given ending))

-- the model is read for the case
pub answers_told : (p : PolicyShape) (word : List ℕ) (f : ℕ) (filed : Filed) (bytes : List ℕ) (seen : Option (List ℕ)) (c : Case)
    (result : Result Answer RunFault)
    → number_named p.flow_names word ≡ Some f → GivesBytes MODEL_FILE_LIMIT filed (Ok bytes) → IfSome seen (λ input. GivesCase p f input (Ok c))
    → AnswersAs (UnlessLarge p f c (ReadsModel p f bytes c)) result → AnswersAs (ModelAsked p word filed seen) result
answers_told p word f filed bytes seen c result named gives given h =
    answers_by (UnlessLarge p f c (ReadsModel p f bytes c)) (ModelAsked p word filed seen) result
    (λ fault text says. asked_model p word f filed seen fault text named
    (over_model (AboutModel p f seen) filed bytes fault text gives (over_told p f seen c (ModelOf p f bytes) fault text given says))) h
