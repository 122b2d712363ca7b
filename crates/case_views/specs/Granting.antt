-- Inside: what steps of cases that came before a user would be granted.
use Rattle.std.specs.Prelude.{ℕ, ◌<◌, Bool, List, length, MatchBool}
use Rattle.std.specs.List.{All}
use Rattle.constraint_forms.specs.Assign.{is_member}
use Rattle.policy_book.specs.Laws.Shapes.{PolicyShape}
use Rattle.case_record.specs.Cases.{CaseShape}
use Rattle.wf_board.specs.Views.{IsGrantable}
use Rattle.case_views.specs.declared.granted.Work.{Work}

-- a set has the steps of a case that a user would be granted, and no other step of it
pub record TellsSteps (p : PolicyShape) (u : ℕ) (c : CaseShape) (steps : List Bool) : Type 0 where
  pub told : (s : ℕ) → s < length c.states →
      MatchBool (is_member steps s) (IsGrantable p c s u) (¬ IsGrantable p c s u)

-- what was found is right for a user under a policy
abbrev pub TellsWork : PolicyShape → ℕ → Work → Type 0
TellsWork p u work = All (λ t. TellsSteps p u t.case t.steps) work.told.items
