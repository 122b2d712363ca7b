-- What an edit of the policy has to leave: each open case a valid plan.
use Rattle.std.specs.Prelude.{◌≡◌, ℕ, List, [], ◌∷◌, IsTrue}
use Rattle.std.proofs.Common.{◌⊎◌}
use Rattle.refutation_tree.specs.declared.tree.Tree.{Tree}
use Rattle.refutation_tree.specs.Laws.Views.{shape_of}
use Rattle.policy_book.specs.Laws.Shapes.{PolicyShape}
use Rattle.policy_book.specs.Policies.{problem_of}
use Rattle.policy_book.specs.Laws.Plans.{IsCompletable, IsValidPlan}
use Rattle.policy_book.specs.Laws.Refuting.{refutes}
use Rattle.case_record.specs.Cases.{CaseShape, assigned_of, finished_of}
use Rattle.wf_board.specs.Laws.States.{Numbered}

-- a plan is valid for a case under a policy
abbrev pub IsPlanOf : PolicyShape → CaseShape → List ℕ → Type 0
IsPlanOf p c plan = IsValidPlan (problem_of p c.flow) (assigned_of c) (finished_of c) plan

-- a case can be completed under a policy
abbrev pub CanBeCompleted : PolicyShape → CaseShape → Type 0
CanBeCompleted p c = IsCompletable (problem_of p c.flow) (assigned_of c) (finished_of c)

-- a tree shows that a case cannot be completed under a policy
abbrev pub IsTreeOf : PolicyShape → CaseShape → Tree → Type 0
IsTreeOf p c tree =
    IsTrue (refutes (problem_of p c.flow) (assigned_of c) (finished_of c) (shape_of tree))

-- each of these cases can be completed under a policy
abbrev pub CanAllBeCompleted : PolicyShape → List Numbered → Type 0
CanAllBeCompleted p [] = Unit {0}
CanAllBeCompleted p (e ∷ es) = CanBeCompleted p e.case × CanAllBeCompleted p es

-- there is one valid plan under a policy for each of these cases, in their order
abbrev pub ArePlansOf : PolicyShape → List Numbered → List (List ℕ) → Type 0
ArePlansOf p [] [] = Unit {0}
ArePlansOf p (e ∷ es) (plan ∷ plans) = IsPlanOf p e.case plan × ArePlansOf p es plans
ArePlansOf p es plans = ⊥

-- the first of these cases that cannot be completed under a policy has this number and workflow, as
-- the tree shows
abbrev pub IsFirstStranded : PolicyShape → List Numbered → ℕ → ℕ → Tree → Type 0
IsFirstStranded p [] n f tree = ⊥
IsFirstStranded p (e ∷ es) n f tree =
    ((e.number ≡ n) × ((e.case.flow ≡ f) × IsTreeOf p e.case tree))
    ⊎ (CanBeCompleted p e.case × IsFirstStranded p es n f tree)
