-- Inside: what is known of an answer before it is written.
use Rattle.std.specs.Prelude.{◌≡◌, ℕ, Bool, true, false, List, [], Result, Ok, Err}
use Rattle.wf_outside.specs.Laws.Outside.{Filed, told, missing, untold}
use Rattle.policy_book.specs.Laws.Shapes.{PolicyShape}
use Rattle.run_record.specs.declared.fault.RunFault.{RunFault}
use Rattle.run_record.specs.declared.fault.RunFault.TheVariants.{Nothing, Found, Load}
use Rattle.run_record.specs.Fault.{How, misfiled, refused, unloaded, unread, lacking, how_of}
use Rattle.wf_commands.specs.declared.answer.Answer.{Answer}
use Rattle.wf_commands.specs.Once.{OverPolicy}

-- how a run with an answer ends
abbrev pub ending_with : Bool → RunFault
ending_with true = Found
ending_with false = Nothing

-- an ending without an answer is one of these, where the outside and memory did not fail
abbrev pub RefusesSo : How → (RunFault → List ℕ → Type 0) → RunFault → Type 0
RefusesSo unloaded Answers fault = Unit {0}
RefusesSo unread Answers fault = Unit {0}
RefusesSo lacking Answers fault = Unit {0}
RefusesSo how Answers fault = Answers fault []

-- an answer is one of these; so is the ending without one
abbrev pub AnswersAs : (RunFault → List ℕ → Type 0) → Result Answer RunFault → Type 0
AnswersAs Answers (Ok answer) = Answers (ending_with answer.found) answer.text.items
AnswersAs Answers (Err fault) = RefusesSo (how_of fault) Answers fault

-- the same about the policy in a file, by what is told of the file
abbrev pub AnswersFile : (PolicyShape → RunFault → List ℕ → Type 0) → Filed
    → Result Answer RunFault → Type 0
AnswersFile Answers untold result = (file : List ℕ) × AnswersAs (OverPolicy Answers file) result
AnswersFile Answers missing result = result ≡ Err Load
AnswersFile Answers (told file) result = AnswersAs (OverPolicy Answers file) result

-- the endings without an answer once the policy is there: what is asked or the input is refused, or
-- reading or memory failed
abbrev pub EndsAnswering : How → Type 0
EndsAnswering refused = Unit {0}
EndsAnswering unread = Unit {0}
EndsAnswering lacking = Unit {0}
EndsAnswering how = ⊥

abbrev pub IsAnswerEnding : RunFault → Type 0
IsAnswerEnding fault = EndsAnswering (how_of fault)

-- and where no input is read: what is asked is refused, or memory failed
abbrev pub EndsTelling : How → Type 0
EndsTelling refused = Unit {0}
EndsTelling lacking = Unit {0}
EndsTelling how = ⊥

abbrev pub IsTellEnding : RunFault → Type 0
IsTellEnding fault = EndsTelling (how_of fault)

-- all endings without an answer
abbrev pub EndsUnanswered : How → Type 0
EndsUnanswered misfiled = Unit {0}
EndsUnanswered refused = Unit {0}
EndsUnanswered unloaded = Unit {0}
EndsUnanswered unread = Unit {0}
EndsUnanswered lacking = Unit {0}
EndsUnanswered how = ⊥

abbrev pub IsCommandEnding : RunFault → Type 0
IsCommandEnding fault = EndsUnanswered (how_of fault)
