-- The answers of the command `cnf` for a policy: its clauses, or what a model of them says.
use Rattle.std.specs.Prelude.{◌≡◌, ◌↔◌, ℕ, ◌++◌, ℤ, Bool, List, length, codes, decimal, Option}
use Rattle.std.specs.Prelude.{IfSome, MatchOption, MatchResult, MatchBool, nat_lt}
use Rattle.wf_names.specs.declared.limits.TheConstants.{LINE_LIMIT}
use Rattle.wf_outside.specs.Laws.Outside.{Filed, told, missing, untold}
use Rattle.serde_json.specs.Written.{compact_text}
use Rattle.policy_book.specs.Laws.Shapes.{PolicyShape}
use Rattle.policy_book.specs.Policies.{flow_at, problem_of}
use Rattle.policy_book.specs.Laws.Plans.{IsCompletable}
use Rattle.wire_json.specs.Entries.{plan_data}
use Rattle.cnf_export.specs.Laws.Encodings.{clauses_of, literals, variables_of}
use Rattle.cnf_export.specs.declared.tally.TheConstants.{LITERAL_LIMIT}
use Rattle.cnf_export.specs.Saying.{has_variable}
use Rattle.cnf_export.specs.ModelLaws.{IsSatisfiable}
use Rattle.cnf_export.specs.Readings.{IsReading}
use Rattle.cnf_export.specs.ModelText.{model_of_text}
use Rattle.cnf_export.specs.declared.reading.Reading.{Reading}
use Rattle.cnf_export.specs.declared.reading.Reading.TheVariants.{Plan, Clause}
use Rattle.cnf_export.specs.Text.{dimacs_text}
use Rattle.run_record.specs.declared.fault.RunFault.{RunFault}
use Rattle.run_record.specs.declared.fault.RunFault.TheVariants.{Nothing, Found, FileTooLong}
use Rattle.run_record.specs.declared.fault.RunFault.TheVariants.{LineTooLong, BadInput, TooLarge}
use Rattle.run_record.specs.declared.fault.InputFault.TheVariants.{NoFlow, Model}
use Rattle.wf_commands.specs.Input.{number_named}
use Rattle.wf_commands.specs.Once.{Refuses}
use Rattle.wf_commands.specs.declared.case.Case.{Case}
use Rattle.wf_commands.specs.declared.model_file.TheConstants.{MODEL_FILE_LIMIT}
use Rattle.wf_commands.specs.Cases.{case_of_input}

-- the clauses of a case of a workflow
abbrev pub clauses_for : PolicyShape → ℕ → Case → List (List ℤ)
clauses_for p f c = clauses_of (problem_of p f) c.assigned c.finished

-- the answers about the case in an input: one that is too long or has a fault is refused
abbrev pub OverCase : PolicyShape → ℕ → (Case → RunFault → List ℕ → Type 0) → List ℕ
    → RunFault → List ℕ → Type 0
OverCase p f Answers input fault text =
    MatchBool (nat_lt LINE_LIMIT (length input)) (Refuses (LineTooLong 0) fault text)
    (MatchResult (case_of_input p (length (flow_at p f).flow.steps) input)
    (λ c. Answers c fault text) (λ e. Refuses (BadInput e) fault text))

-- .. unless its clauses have too many literals
abbrev pub UnlessLarge : PolicyShape → ℕ → Case → (RunFault → List ℕ → Type 0)
    → RunFault → List ℕ → Type 0
UnlessLarge p f c Answers fault text =
    MatchBool (nat_lt LITERAL_LIMIT (literals (clauses_for p f c))) (Refuses TooLarge fault text)
    (Answers fault text)

-- the text is that of the clauses, which have a model exactly where the case can be completed
pub record TellsClauses (p : PolicyShape) (f : ℕ) (c : Case) (fault : RunFault) (text : List ℕ)
    : Type 0 where
  pub well : fault ≡ Nothing
  pub whole : text ≡ dimacs_text (variables_of (problem_of p f)) (clauses_for p f c)
  pub decides : IsSatisfiable (clauses_for p f c)
      ↔ IsCompletable (problem_of p f) c.assigned c.finished

-- the clauses of the case in the input, where it is told, and of the workflow that is named
abbrev pub ClausesAsked : PolicyShape → List ℕ → Option (List ℕ) → RunFault → List ℕ → Type 0
ClausesAsked p word seen fault text =
    MatchOption (number_named p.flow_names word) (Refuses (BadInput NoFlow) fault text)
    (λ f. IfSome seen (λ input.
    OverCase p f (λ c. UnlessLarge p f c (TellsClauses p f c)) input fault text))

-- the line of a plan: the JSON array of its users' names in the order of the steps
abbrev pub plan_array_line : List (List ℕ) → List ℕ → List ℕ
plan_array_line users plan = compact_text (plan_data users plan) ++ codes "\n"

-- the line that names a clause
abbrev pub clause_number_line : ℕ → List ℕ
clause_number_line k = codes "clause " ++ decimal k ++ codes "\n"

-- the line of what a model says, and how a run ends that writes it: a plan is told, and a clause is
-- found
abbrev pub TellsOutcome : List (List ℕ) → Reading → RunFault → List ℕ → Type 0
TellsOutcome users (Plan plan) fault text = (fault ≡ Nothing) × (text ≡ plan_array_line users plan)
TellsOutcome users (Clause k) fault text = (fault ≡ Found) × (text ≡ clause_number_line k)

-- the plan that a model says, which is valid, where it satisfies all clauses of the case; or the
-- first one that it does not satisfy
pub record TellsReading (p : PolicyShape) (f : ℕ) (c : Case) (model : ℕ → Bool) (fault : RunFault)
    (text : List ℕ) : Type 0 where
  pub reading : Reading
  pub says : IsReading (problem_of p f) c.assigned c.finished model reading
  pub tells : TellsOutcome p.roster.users reading fault text

-- the model in a text is told, or its first word that is none
abbrev pub ReadsModel : PolicyShape → ℕ → List ℕ → Case → RunFault → List ℕ → Type 0
ReadsModel p f model c fault text =
    MatchResult (model_of_text (variables_of (problem_of p f)) model)
    (λ flags. TellsReading p f c (has_variable flags) fault text)
    (λ k. Refuses (BadInput (Model k)) fault text)

-- the answers over the text of a file; one that is too long is refused
abbrev pub OverText : (List ℕ → RunFault → List ℕ → Type 0) → List ℕ → RunFault → List ℕ → Type 0
OverText Answers model fault text =
    MatchBool (nat_lt MODEL_FILE_LIMIT (length model)) (Refuses FileTooLong fault text)
    (Answers model fault text)

-- .. by what is told of the file; where it is missing nothing is answered, and one of which nothing
-- is told has some content
abbrev pub OverModel : (List ℕ → RunFault → List ℕ → Type 0) → Filed → RunFault → List ℕ → Type 0
OverModel Answers untold fault text = (model : List ℕ) × OverText Answers model fault text
OverModel Answers missing fault text = ⊥
OverModel Answers (told model) fault text = OverText Answers model fault text

-- what a model says of the case in the input, where it is told, and of the workflow that is named
abbrev pub ModelAsked : PolicyShape → List ℕ → Filed → Option (List ℕ) → RunFault → List ℕ → Type 0
ModelAsked p word filed seen fault text =
    MatchOption (number_named p.flow_names word) (Refuses (BadInput NoFlow) fault text)
    (λ f. OverModel (λ model fault text. IfSome seen (λ input.
    OverCase p f (λ c. UnlessLarge p f c (ReadsModel p f model c)) input fault text))
    filed fault text)
