-- What a search needs of a case: its steps are those of its workflow, and its users those of the policy.
use Rattle.wf_board.proofs.Common.{◌≡◌, ℕ, ◌<◌, List, length, Some, ◌∙◌, arith, user_of, PolicyShape}
use Rattle.wf_board.proofs.Common.{problem_of, IsValidPlan, IsWithin, CaseShape, assigned_of, finished_of, state_at, assigned_of-at, assigned_with, IsOfPolicy}
use Rattle.certificate_check.proofs.Assigned.{given}

-- what is assigned in a case with a valid plan is within its workflow and policy
pub planned_within : (p : PolicyShape) (c : CaseShape) (plan : List ℕ) → IsOfPolicy p c →
    IsValidPlan (problem_of p c.flow) (assigned_of c) (finished_of c) plan →
    IsWithin (problem_of p c.flow) (assigned_of c)
planned_within p c plan known valid = grind arith

-- and stays so where one of its steps is given to a user of the policy
pub claimed_within : (p : PolicyShape) (c : CaseShape) (t u : ℕ) → IsOfPolicy p c → t < length c.states → u < length p.roster.users → IsWithin
    (problem_of p c.flow) (assigned_of c) →
    IsWithin (problem_of p c.flow) (assigned_with c t u)
claimed_within p c t u known step user within = grind (arith, given)

-- the users of a case are users of its policy
pub user_known : (p : PolicyShape) (c : CaseShape) (t u : ℕ) → IsOfPolicy p c → user_of (state_at c t) ≡ Some u → u < length p.roster.users
user_known p c t u of is = of.users.users t u (assigned_of-at c t ∙ is)
