-- The command `plan`: the plan in the input is judged.
use Rattle.std.specs.Prelude.{◌≡◌, ℕ, List, [], ◌++◌, length, Option, Some, Err, IfSome}
use Rattle.std.specs.Prelude.{MatchOption, MatchResult, MatchBool, nat_lt, codes, decimal}
use Rattle.std.specs.Prelude.{slice_index_or}
use Rattle.wf_names.specs.declared.limits.TheConstants.{LINE_LIMIT}
use Rattle.constraint_forms.specs.Assign.{no_users, no_steps}
use Rattle.policy_book.specs.Laws.Shapes.{PolicyShape}
use Rattle.policy_book.specs.Policies.{flow_at, problem_of}
use Rattle.policy_book.specs.Laws.Plans.{IsValidPlan}
use Rattle.certificate_check.specs.declared.plan.PlanFault.{PlanFault}
use Rattle.certificate_check.specs.declared.plan.PlanFault.TheVariants.{Moved, Role, Rule}
use Rattle.certificate_check.specs.Plan.{plan_verdict}
use Rattle.run_record.specs.declared.fault.RunFault.{RunFault}
use Rattle.run_record.specs.declared.fault.RunFault.TheVariants.{Nothing, Found, LineTooLong}
use Rattle.run_record.specs.declared.fault.RunFault.TheVariants.{BadInput}
use Rattle.run_record.specs.declared.fault.InputFault.TheVariants.{NoFlow}
use Rattle.run_record.specs.Laws.Run.{Run}
use Rattle.wf_commands.specs.Input.{plan_of_input, number_named}
use Rattle.wf_commands.specs.Once.{Refuses, RunsOnce}

-- the line that names the first fault of a plan; a plan from nothing moves no step
abbrev pub fault_line : List (List ℕ) → PlanFault → List ℕ
fault_line steps (Moved s) = []
fault_line steps (Role s) = codes "role " ++ slice_index_or steps s [] ++ codes "\n"
fault_line steps (Rule k) = codes "rule " ++ decimal k ++ codes "\n"

-- a valid plan ends well and is called so; another one is found out by its first fault
abbrev pub Judges : PolicyShape → ℕ → List ℕ → RunFault → List ℕ → Type 0
Judges p f users Nothing text =
    IsValidPlan (problem_of p f) no_users no_steps users × (text ≡ codes "valid\n")
Judges p f users Found text =
    (e : PlanFault) × (plan_verdict (problem_of p f) no_users no_steps users ≡ Err e)
    × (text ≡ fault_line (flow_at p f).flow.steps e)
Judges p f users fault text = ⊥

-- all of the input is judged as a plan for a workflow
abbrev pub JudgesAll : PolicyShape → ℕ → List ℕ → RunFault → List ℕ → Type 0
JudgesAll p f input fault text =
    MatchBool (nat_lt LINE_LIMIT (length input)) (Refuses (LineTooLong 0) fault text)
    (MatchResult (plan_of_input p (length (flow_at p f).flow.steps) input)
    (λ users. Judges p f users fault text) (λ e. Refuses (BadInput e) fault text))

-- the input is judged, where it is told, for the workflow that is named; without one it is not read
abbrev pub JudgesInput : PolicyShape → List ℕ → Option (List ℕ) → RunFault → List ℕ → Type 0
JudgesInput p word told fault text =
    MatchOption (number_named p.flow_names word) (Refuses (BadInput NoFlow) fault text)
    (λ f. IfSome told (λ input. JudgesAll p f input fault text))

-- a run of `plan` with a policy file and the name of a workflow
abbrev pub Plans : List ℕ → List ℕ → Run → Type 0
Plans policy flow r = RunsOnce (Some LINE_LIMIT) policy (λ told p. JudgesInput p flow told) r
