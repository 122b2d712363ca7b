-- Inside: what the decider finds on a deed.
use Rattle.std.specs.Prelude.{◌≡◌, ℕ, Bool, true, List, [], ◌∷◌, ◌++◌, Option, None, Some, Ok}
use Rattle.std.specs.Prelude.{IsTrue, ◌⊎◌}
use Rattle.refutation_tree.specs.declared.tree.Tree.{Tree}
use Rattle.refutation_tree.specs.Laws.Views.{shape_of}
use Rattle.policy_book.specs.Laws.Shapes.{PolicyShape}
use Rattle.policy_book.specs.Laws.Plans.{Problem, IsValidPlan}
use Rattle.policy_book.specs.Laws.Refuting.{refutes}
use Rattle.case_record.specs.Cases.{is_open}
use Rattle.grant_table.specs.declared.rows.Row.{Row}
use Rattle.admin_edits.specs.declared.amendment.Amendment.{Amendment}
use Rattle.wsp_solver.specs.declared.search.Outcome.{Outcome}
use Rattle.wsp_solver.specs.declared.search.Outcome.TheVariants as outcome
use Rattle.wf_board.specs.declared.deed.Deed.TheVariants as deed
use Rattle.wf_board.specs.declared.verdict.Verdict.{Verdict}
use Rattle.wf_board.specs.declared.verdict.Verdict.TheVariants as verdict
use Rattle.wf_board.specs.Laws.States.{Book, Numbered, open_cases}
use Rattle.wf_board.specs.Boards.{numbered}
use Rattle.wf_board.specs.Edition.{ArePlansOf, IsFirstStranded, IsTreeOf}
use Rattle.wf_board.specs.Verdicts.{IsEditionFor, IsStrandingFor}
use Rattle.case_views.specs.declared.edit_decider.Left.{Left}
use Rattle.case_views.specs.declared.edit_decider.Left.TheVariants as left
use Rattle.basics.specs.declared.fault.Fault.{Fault}
use Rattle.basics.specs.declared.fault.Fault.TheVariants as fault
use Rattle.wsp_solver.specs.declared.search.OverBudget.{OverBudget}

-- why there is no other verdict, as one
abbrev pub verdict_without : Fault OverBudget → Verdict
verdict_without fault.NoMemory = verdict.NoMemory
verdict_without (fault.Cause _) = verdict.OverBudget

-- a plan or a tree for an assignment, unless it was not found out
abbrev pub DecidesFor : Problem → List (Option ℕ) → List Bool → Verdict → Type 0
DecidesFor p assigned finished verdict.NoMemory = Unit {0}
DecidesFor p assigned finished verdict.OverBudget = Unit {0}
DecidesFor p assigned finished (verdict.Plan plan) = IsValidPlan p assigned finished plan
DecidesFor p assigned finished (verdict.Refuted tree) =
    IsTrue (refutes p assigned finished (shape_of tree))
DecidesFor p assigned finished v = ⊥

-- the policy after a change with plans for the open cases, or the first of them that it leaves
-- without one, unless it was not found out
abbrev pub DecidesChange : Book → Amendment → Verdict → Type 0
DecidesChange b a verdict.NoMemory = Unit {0}
DecidesChange b a verdict.OverBudget = Unit {0}
DecidesChange b a (verdict.Edited edition) = IsEditionFor b (Ok (deed.Change a)) edition
DecidesChange b a (verdict.Strands n tree) = IsStrandingFor b (Ok (deed.Change a)) n tree
DecidesChange b a v = ⊥

-- what a search found, as a verdict; or there was no memory to hand its tree on
abbrev pub IsVerdictOf : Outcome → Verdict → Type 0
IsVerdictOf (outcome.Plan plan) v = v ≡ verdict.Plan plan
IsVerdictOf (outcome.Refuted tree) v = (v ≡ verdict.Refuted tree) ⊎ (v ≡ verdict.NoMemory)

-- what a changed policy leaves these cases: a plan each, or the first of them has none
abbrev pub IsLeft : PolicyShape → List Numbered → Left → Type 0
IsLeft p cases (left.Plans plans) = ArePlansOf p cases plans
IsLeft p cases (left.Stranded n tree) = (f : ℕ) × IsFirstStranded p cases n f tree

-- the same, as a verdict
abbrev pub IsVerdictOn : PolicyShape → Left → Verdict → Type 0
IsVerdictOn p (left.Plans plans) v = v ≡ verdict.Edited (record { policy = p; plans = plans })
IsVerdictOn p (left.Stranded n tree) v = v ≡ verdict.Strands n tree

-- a plan that was found is added to others, or there is a tree
abbrev pub AddsPlan : Outcome → List (List ℕ) → List (List ℕ) → Option Tree → Type 0
AddsPlan (outcome.Plan plan) before after tree = (tree ≡ None) × (after ≡ before ++ plan ∷ [])
AddsPlan (outcome.Refuted shown) before after tree = tree ≡ Some shown

-- the same of a case that may be closed, for which nothing is added
abbrev pub IsPartAdded : Option Outcome → List (List ℕ) → List (List ℕ) → Option Tree → Type 0
IsPartAdded None before after tree = (tree ≡ None) × (after ≡ before)
IsPartAdded (Some o) before after tree = AddsPlan o before after tree

-- a plan for the case of a row is added to others, if the case is open; or there is none, as a tree
-- shows
abbrev pub AddsPlanOfRow : PolicyShape → Row → List (List ℕ) → List (List ℕ) → Option Tree → Type 0
AddsPlanOfRow p r before after None =
    (more : List (List ℕ)) ×
    ((after ≡ before ++ more) × ArePlansOf p (open_cases (numbered r ∷ [])) more)
AddsPlanOfRow p r before after (Some tree) = (is_open r.case ≡ true) × IsTreeOf p r.case tree
