-- What views over the open cases list: the steps that a user may be granted now, and the cases that
-- an edit would strand.
use Rattle.std.specs.Prelude.{◌≡◌, ℕ, ◌+◌, zero, suc, List, [], ◌∷◌, ◌++◌, length, None}
use Rattle.std.proofs.Common.{◌⊎◌}
use Rattle.policy_book.specs.Laws.Shapes.{PolicyShape}
use Rattle.policy_book.specs.Policies.{problem_of}
use Rattle.policy_book.specs.Laws.Plans.{IsCompletable}
use Rattle.case_record.specs.Cases.{CaseShape, finished_of}
use Rattle.wf_talk.specs.declared.reply.WorkItem.{WorkItem}
use Rattle.admin_edits.specs.ClaimCauses.{assigned_with, first_cause}
use Rattle.wf_board.specs.Laws.States.{Book, Numbered, open_cases}
use Rattle.wf_board.specs.Edition.{CanBeCompleted}

-- `names` has the names of those of the values that have the property `In`, in their order; all
-- others have the property `Out`
abbrev pub AreThose : {A B : Type 0} → (A → Type 0) → (A → Type 0) → (A → B) → List A → List B →
    Type 0
AreThose In Out name [] names = names ≡ []
AreThose {A} {B} In Out name (x ∷ xs) names =
    (In x × ((more : List B) × ((names ≡ name x ∷ more) × AreThose In Out name xs more)))
    ⊎ (Out x × AreThose In Out name xs names)

-- a step of a case with its number
pub record Place : Type 0 where
  pub of : Numbered
  pub step : ℕ

-- the steps of a case from the step t on, as many as the number before t tells
abbrev pub steps_from : Numbered → ℕ → ℕ → List Place
steps_from e zero t = []
steps_from e (suc more) t = record { of = e; step = t } ∷ steps_from e more (t + 1)

-- the steps of these cases, case after case
abbrev pub steps_of : List Numbered → List Place
steps_of [] = []
steps_of (e ∷ es) = steps_from e (length e.case.states) 0 ++ steps_of es

-- a claim of a step of a case by a user would be granted: no cause is against it, and the case can
-- then be completed
pub record IsGrantable (p : PolicyShape) (c : CaseShape) (t u : ℕ) : Type 0 where
  pub clear : first_cause p c t u ≡ None
  pub completable : IsCompletable (problem_of p c.flow) (assigned_with c t u) (finished_of c)

-- a step of a case as a work list has it
abbrev pub item_of : Place → WorkItem
item_of x = record { case = x.of.number; flow = x.of.case.flow; step = x.step }

-- the work of a user: the steps of the open cases that would be granted to the user, by ascending
-- case and step
abbrev pub IsWorkOf : Book → ℕ → List WorkItem → Type 0
IsWorkOf b u items =
    AreThose (λ x. IsGrantable b.policy x.of.case x.step u)
    (λ x. ¬ IsGrantable b.policy x.of.case x.step u) item_of
    (steps_of (open_cases b.cases)) items

-- the numbers of those of these cases that cannot be completed under a policy
abbrev pub AreStranded : PolicyShape → List Numbered → List ℕ → Type 0
AreStranded p cases numbers = AreThose (λ e. ¬ CanBeCompleted p e.case)
    (λ e. CanBeCompleted p e.case) (λ e. e.number) cases numbers
