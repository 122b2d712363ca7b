-- A kept plan that gives a step to a user.
use Rattle.wf_board.proofs.Common.{◌≡◌, ℕ, true, List, Option, Some, subst, arith, Free, PolicyShape, is_authorised, IsValidPlan, Problem, CaseShape}
use Rattle.wf_board.proofs.Common.{assigned_of, finished_of, state_at, finished_of-at, Row, case_in, plan_of, assigned_with, Duty, IsPlanOf, AreFound}
use Rattle.wf_board.proofs.Common.{ArePlanned, IsPlanned}
use Rattle.constraint_forms.specs.Assign.{planned}
use Rattle.certificate_check.proofs.Assigned.{either, given}
use Rattle.grant_table.specs.Cases.{row_at}
use Rattle.wf_board.proofs.Rows.{each_at, row_of_case}

planned_is : (p : PolicyShape) (c : CaseShape) (o : Option (List ℕ)) (plan : List ℕ) → o ≡ Some plan → IsPlanned p c o → IsPlanOf p c plan
planned_is p c o plan is planned = subst (IsPlanned p c) is planned

-- the plan that is kept for a case is valid
pub kept_valid : (p : PolicyShape) (rows : List Row) (n : ℕ) (c : CaseShape) (plan : List ℕ) → ArePlanned p rows → case_in n rows ≡ Some c →
    plan_of (row_at n rows) ≡ Some plan → IsPlanOf p c plan
kept_valid p rows n c plan are here kept = grind (arith, row_of_case, planned_is, each_at)

-- a plan that is valid and gives a step to a user is valid with the user there
pub valid_with : (p : Problem) (c : CaseShape) (t u : ℕ) (plan : List ℕ) → planned plan t ≡ u → IsValidPlan p (assigned_of c) (finished_of c) plan →
    IsValidPlan p (assigned_with c t u) (finished_of c) plan
valid_with p c t u plan gives valid = grind (arith, either, given)

-- a user to whom a valid plan gives a free step is authorised for it
pub may_planned : (p : PolicyShape) (rows : List Row) (d : Duty) (plan : List ℕ) → AreFound p rows d → state_at d.case d.step ≡ Free →
    planned plan d.step ≡ d.user → IsPlanOf p d.case plan → is_authorised p d.case.flow d.step d.user ≡ true
may_planned p rows d plan found free gives valid = grind (arith, finished_of-at)
