-- Families of plans, and which absences they cover.
use Rattle.std.specs.Prelude.{ℕ, ◌≤◌, Bool, true, false, not, ◌||◌, List, []}
use Rattle.std.specs.Prelude.{◌∷◌, length, IsTrue}
use Rattle.std.specs.List.{All}
use Rattle.constraint_forms.specs.Assign.{planned, no_users, no_steps}
use Rattle.refutation_tree.specs.Laws.Views.{shape_of}
use Rattle.policy_book.specs.Laws.Shapes.{PolicyShape}
use Rattle.policy_book.specs.Policies.{problem_of}
use Rattle.policy_book.specs.Laws.Plans.{IsValidPlan, Problem}
use Rattle.policy_book.specs.Laws.Refuting.{refutes}
use Rattle.policy_book.specs.Laws.Twins.{all_below, is_one_of}
use Rattle.resilience_check.specs.Left.{IsLeastAbsence, problem_without}
use Rattle.resilience_check.specs.declared.search.AbsenceAnswer.{AbsenceAnswer}
use Rattle.resilience_check.specs.declared.search.AbsenceAnswer.TheVariants.{Holds, Breaks}

-- a plan has none of the absent users
abbrev pub is_whole : List ℕ → List ℕ → Bool
is_whole absent plan = all_below (length plan) (λ s. not (is_one_of absent (planned plan s)))

-- some plan of a family has none of the absent users
abbrev pub leaves_some : List (List ℕ) → List ℕ → Bool
leaves_some [] absent = false
leaves_some (plan ∷ plans) absent = is_whole absent plan || leaves_some plans absent

-- whichever at most t users are absent, some plan of a family has none of them
abbrev pub CoversAbsences : List (List ℕ) → ℕ → Type 0
CoversAbsences plans t = (absent : List ℕ) → length absent ≤ t → IsTrue (leaves_some plans absent)

-- each plan of a family is valid from nothing
abbrev pub AreValidPlans : Problem → List (List ℕ) → Type 0
AreValidPlans p plans = All (IsValidPlan p no_users no_steps) plans

-- what is answered: valid plans that cover every absence of at most t users; or the least absence
-- that leaves no valid plan, with a tree that refutes what is left of the workflow
abbrev pub AnswersAbsence : PolicyShape → ℕ → ℕ → AbsenceAnswer → Type 0
AnswersAbsence p f t (Holds plans) = AreValidPlans (problem_of p f) plans × CoversAbsences plans t
AnswersAbsence p f t (Breaks absent tree) =
    IsLeastAbsence p f t absent
    × IsTrue (refutes (problem_without p f absent) no_users no_steps (shape_of tree))

-- whether it is that the workflow is resilient
abbrev pub holds : AbsenceAnswer → Bool
holds (Holds plans) = true
holds (Breaks absent tree) = false
