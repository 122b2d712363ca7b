-- Inside: what the steps of a run give.
use Rattle.std.specs.Prelude.{◌≡◌, ℕ, ◌<◌, ◌≤◌, Bool, List, length, Result, Ok, Err}
use Rattle.basics.specs.declared.fault.Fault.{Fault}
use Rattle.basics.specs.declared.fault.Fault.TheVariants as fault
use Rattle.wf_names.specs.declared.limits.TheConstants.{LINE_LIMIT}
use Rattle.wf_outside.specs.Laws.Outside.{Filed, told, missing, untold}
use Rattle.wf_outside.specs.declared.source.Failed.{Failed}
use Rattle.policy_book.specs.Laws.Shapes.{PolicyShape}
use Rattle.policy_book.specs.Policies.{flow_at, problem_of}
use Rattle.cnf_export.specs.Laws.Encodings.{literals, variables_of}
use Rattle.cnf_export.specs.Encoders.{EncoderShape}
use Rattle.cnf_export.specs.declared.tally.TheConstants.{LITERAL_LIMIT}
use Rattle.cnf_export.specs.ModelText.{model_of_text}
use Rattle.cnf_export.specs.Text.{dimacs_text}
use Rattle.run_record.specs.declared.fault.RunFault.{RunFault}
use Rattle.run_record.specs.declared.fault.RunFault.TheVariants.{Nothing, Load, Read, Write}
use Rattle.run_record.specs.declared.fault.RunFault.TheVariants.{NoMemory, LineTooLong, BadInput}
use Rattle.run_record.specs.declared.fault.RunFault.TheVariants.{TooLarge}
use Rattle.run_record.specs.declared.fault.InputFault.TheVariants.{NoFlow, Model}
use Rattle.wf_commands.specs.Answer.{AnswersAs}
use Rattle.wf_commands.specs.Once.{OverPolicy}
use Rattle.wf_commands.specs.declared.case.Case.{Case}
use Rattle.wf_commands.specs.Cases.{case_of_input}
use Rattle.wf_commands.specs.CnfAnswers.{clauses_for}

-- an input is read as a case of a workflow, or is too long or has its first fault, or reading or
-- memory failed
abbrev pub GivesCase : PolicyShape → ℕ → List ℕ → Result Case RunFault → Type 0
GivesCase p f input (Ok c) =
    (length input ≤ LINE_LIMIT)
    × (case_of_input p (length (flow_at p f).flow.steps) input ≡ Ok c)
GivesCase p f input (Err (LineTooLong line)) = (LINE_LIMIT < length input) × (line ≡ 0)
GivesCase p f input (Err (BadInput e)) =
    (length input ≤ LINE_LIMIT)
    × (case_of_input p (length (flow_at p f).flow.steps) input ≡ Err e)
GivesCase p f input (Err Read) = Unit {0}
GivesCase p f input (Err NoMemory) = Unit {0}
GivesCase p f input (Err fault) = ⊥

-- the same of an input that is there
abbrev pub ReadsCase : PolicyShape → ℕ → List ℕ → Result Case RunFault → Type 0
ReadsCase p f input (Ok c) = case_of_input p (length (flow_at p f).flow.steps) input ≡ Ok c
ReadsCase p f input (Err (BadInput e)) =
    case_of_input p (length (flow_at p f).flow.steps) input ≡ Err e
ReadsCase p f input (Err NoMemory) = Unit {0}
ReadsCase p f input (Err fault) = ⊥

-- the endings of reading an input that is there
abbrev pub IsReadingEnding : RunFault → Type 0
IsReadingEnding NoMemory = Unit {0}
IsReadingEnding (BadInput NoFlow) = ⊥
IsReadingEnding (BadInput e) = Unit {0}
IsReadingEnding fault = ⊥

-- the endings of taking a case
abbrev pub IsCaseEnding : RunFault → Type 0
IsCaseEnding (LineTooLong line) = Unit {0}
IsCaseEnding Read = Unit {0}
IsCaseEnding NoMemory = Unit {0}
IsCaseEnding (BadInput NoFlow) = ⊥
IsCaseEnding (BadInput e) = Unit {0}
IsCaseEnding fault = ⊥

-- an encoder of the clauses of a case; or they have too many literals, or memory failed
abbrev pub GivesEncoder : PolicyShape → ℕ → Case → Result EncoderShape RunFault → Type 0
GivesEncoder p f c (Ok e) =
    (literals (clauses_for p f c) ≤ LITERAL_LIMIT)
    × ((e.all ≡ clauses_for p f c) × (e.variables ≡ variables_of (problem_of p f)))
GivesEncoder p f c (Err TooLarge) = LITERAL_LIMIT < literals (clauses_for p f c)
GivesEncoder p f c (Err NoMemory) = Unit {0}
GivesEncoder p f c (Err fault) = ⊥

-- a text is read as a model of these variables, or has its first word that is none, or memory
-- failed
abbrev pub GivesModel : ℕ → List ℕ → Result (List Bool) RunFault → Type 0
GivesModel variables text (Ok m) = model_of_text variables text ≡ Ok m
GivesModel variables text (Err (BadInput (Model k))) = model_of_text variables text ≡ Err k
GivesModel variables text (Err NoMemory) = Unit {0}
GivesModel variables text (Err fault) = ⊥

-- the endings of an answer about a case that is there
abbrev pub IsLateEnding : RunFault → Type 0
IsLateEnding TooLarge = Unit {0}
IsLateEnding (BadInput (Model k)) = Unit {0}
IsLateEnding NoMemory = Unit {0}
IsLateEnding fault = ⊥

-- the text of an encoder's clauses is an answer; so is the ending without an encoder
abbrev pub EncodesAs : (RunFault → List ℕ → Type 0) → Result EncoderShape RunFault → Type 0
EncodesAs Answers (Ok e) = Answers Nothing (dimacs_text e.variables e.all)
EncodesAs Answers (Err fault) = AnswersAs Answers (Err fault)

-- the same about the policy in a file, by what is told of the file
abbrev pub EncodesFile : (PolicyShape → RunFault → List ℕ → Type 0) → Filed
    → Result EncoderShape RunFault → Type 0
EncodesFile Answers untold result = (file : List ℕ) × EncodesAs (OverPolicy Answers file) result
EncodesFile Answers missing result = result ≡ Err Load
EncodesFile Answers (told file) result = EncodesAs (OverPolicy Answers file) result

-- how a run ends whose clauses were written so
abbrev pub ending_written : Result (Unit {0}) (Fault Failed) → RunFault
ending_written (Ok done) = Nothing
ending_written (Err (fault.Cause failed)) = Write
ending_written (Err fault.NoMemory) = NoMemory
