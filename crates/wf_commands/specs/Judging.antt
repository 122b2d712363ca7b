-- Inside: judging an input that is there.
use Rattle.std.specs.Prelude.{◌≡◌, ℕ, List, length, Result, Ok, Err}
use Rattle.policy_book.specs.Laws.Shapes.{PolicyShape}
use Rattle.policy_book.specs.Policies.{flow_at}
use Rattle.run_record.specs.declared.fault.RunFault.{RunFault}
use Rattle.run_record.specs.declared.fault.RunFault.TheVariants.{NoMemory, BadInput}
use Rattle.run_record.specs.declared.fault.InputFault.TheVariants.{NoFlow}
use Rattle.wf_commands.specs.declared.answer.Answer.{Answer}
use Rattle.wf_commands.specs.Answer.{ending_with}
use Rattle.wf_commands.specs.Input.{plan_of_input}
use Rattle.wf_commands.specs.Plan.{Judges}

-- an input is judged as a plan for a workflow, or has its first fault, or memory failed
abbrev pub JudgesAs : PolicyShape → ℕ → List ℕ → Result Answer RunFault → Type 0
JudgesAs p f input (Ok answer) =
    (users : List ℕ) × (plan_of_input p (length (flow_at p f).flow.steps) input ≡ Ok users)
    × Judges p f users (ending_with answer.found) answer.text.items
JudgesAs p f input (Err (BadInput fault)) =
    plan_of_input p (length (flow_at p f).flow.steps) input ≡ Err fault
JudgesAs p f input (Err NoMemory) = Unit {0}
JudgesAs p f input (Err fault) = ⊥

-- the endings of judging an input that is there
abbrev pub IsJudgedEnding : RunFault → Type 0
IsJudgedEnding NoMemory = Unit {0}
IsJudgedEnding (BadInput NoFlow) = ⊥
IsJudgedEnding (BadInput fault) = Unit {0}
IsJudgedEnding fault = ⊥
