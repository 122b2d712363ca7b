-- The command `why`: whether a workflow has a valid plan.
use Rattle.std.specs.Prelude.{◌≡◌, ◌↔◌, ℕ, List, MatchOption}
use Rattle.constraint_forms.specs.Assign.{no_users, no_steps}
use Rattle.policy_book.specs.Laws.Shapes.{PolicyShape}
use Rattle.policy_book.specs.Policies.{problem_of}
use Rattle.policy_book.specs.Laws.Plans.{IsCompletable}
use Rattle.run_record.specs.declared.fault.RunFault.{RunFault}
use Rattle.run_record.specs.declared.fault.RunFault.TheVariants.{Nothing, Found, BadInput}
use Rattle.run_record.specs.declared.fault.InputFault.TheVariants.{NoFlow}
use Rattle.wf_commands.specs.Input.{number_named}
use Rattle.wf_commands.specs.Once.{Refuses}

-- some plan of a workflow is valid
abbrev pub CanBeDone : PolicyShape → ℕ → Type 0
CanBeDone p f = IsCompletable (problem_of p f) no_users no_steps

-- the first of these ends the run exactly where the workflow can be done, the second where it
-- cannot
pub record AnswersWhy (p : PolicyShape) (f : ℕ) (fault : RunFault) : Type 0 where
  pub plan : (fault ≡ Nothing) ↔ CanBeDone p f
  pub none : (fault ≡ Found) ↔ (CanBeDone p f → ⊥)

-- it is told of the workflow that is named; where there is none, that is the answer. The words are
-- not said
abbrev pub TellsWhy : PolicyShape → List ℕ → RunFault → List ℕ → Type 0
TellsWhy p word fault text =
    MatchOption (number_named p.flow_names word) (Refuses (BadInput NoFlow) fault text)
    (λ f. AnswersWhy p f fault)
