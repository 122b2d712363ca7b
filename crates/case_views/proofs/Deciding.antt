-- What the decider finds on a deed.
use Rattle.std.proofs.Common.{◌≡◌, ℕ, ◌<◌, Bool, true, List, length, Option, Result, IfOk, MatchResult, sym, arith}
use Rattle.std.proofs.Common.{◌∙◌}
use Rattle.refutation_tree.specs.declared.tree.Tree.{Tree}
use Rattle.constraint_forms.specs.Assign.{no_steps, no_users}
use Rattle.policy_book.specs.Laws.Shapes.{PolicyShape}
use Rattle.policy_book.specs.Policies.{problem_of}
use Rattle.policy_book.specs.Laws.Plans.{AreAssigned, IsValidPlan, IsWithin, Problem}
use Rattle.certificate_check.proofs.Assigned.{still_assigned}
use Rattle.case_record.specs.Cases.{CaseShape, assigned_of, finished_of}
use Rattle.admin_edits.specs.ClaimCauses.{assigned_with}
use Rattle.wsp_solver.specs.Searches.{HasSolved}
use Rattle.wsp_solver.specs.declared.search.Outcome.{Outcome}
use Rattle.wsp_solver.specs.declared.search.Outcome.TheVariants as outcome
use Rattle.wf_board.specs.declared.deed.Deed.{Deed}
use Rattle.wf_board.specs.declared.deed.Deed.TheVariants as deed
use Rattle.wf_board.specs.declared.deed.Duty.{Duty}
use Rattle.wf_board.specs.declared.verdict.Verdict.{Verdict}
use Rattle.wf_board.specs.declared.verdict.Verdict.TheVariants as verdict
use Rattle.wf_board.specs.Laws.States.{Book}
use Rattle.wf_board.specs.Laws.Kept.{IsOfPolicy}
use Rattle.wf_board.proofs.Within.{claimed_within, planned_within}
use Rattle.wf_board.proofs.Exact.{finished_assigned}
use Rattle.admin_edits.specs.declared.amendment.Amendment.{Amendment}
use Rattle.wf_board.specs.Deeds.{DecidesDeed, is_over_open}
use Rattle.basics.specs.declared.fault.Fault.{Fault}
use Rattle.wsp_solver.specs.declared.search.OverBudget.{OverBudget}
use Rattle.case_views.specs.Found.{IsOffer}
use Rattle.case_views.specs.Deciding.{DecidesChange, DecidesFor, IsVerdictOf, verdict_without}

-- a kept plan is as long as its case
pub kept_length : (p : PolicyShape) (c : CaseShape) (plan : List ℕ) → IsOfPolicy p c →
    IsValidPlan (problem_of p c.flow) (assigned_of c) (finished_of c) plan → length plan ≡ length c.states
kept_length p c plan known valid = valid.whole ∙ sym known.steps

-- what a search needs of a claim
pub search_within : (p : PolicyShape) (c : CaseShape) (plan : List ℕ) (t u : ℕ) → IsOffer p c plan t u → IsWithin (problem_of p c.flow) (assigned_with c t u)
search_within p c plan t u is = claimed_within p c t u is.known is.step is.user (planned_within p c plan is.known is.valid)

pub search_assigned : (c : CaseShape) (t u : ℕ) → t < length (assigned_of c) → AreAssigned (finished_of c) (assigned_with c t u)
search_assigned c t u below = still_assigned (finished_of c) (assigned_of c) t u below (finished_assigned c)

-- what a search found is a verdict
pub verdict_decides : (p : Problem) (a : List (Option ℕ)) (d : List Bool) (o : Outcome) (v : Verdict) → HasSolved p a d o → IsVerdictOf o v → DecidesFor p a d v
verdict_decides p a d o v found is = grind arith

-- a tree is a verdict where there was memory to hand it on
pub tree_verdict : {E : Type 0} (tree : Tree) (made : Result Tree E) (v : Verdict) → IfOk made (λ t. t ≡ tree) →
    MatchResult made (λ t. v ≡ verdict.Refuted t) (λ _. v ≡ verdict.NoMemory) → IsVerdictOf (outcome.Refuted tree) v
tree_verdict tree made v is told = grind arith

-- what was not found out is one of two verdicts
pub unfound_is : (Q : Verdict → Type 0) (u : Fault OverBudget) (v : Verdict) → v ≡ verdict_without u → Q verdict.NoMemory → Q verdict.OverBudget → Q v
unfound_is Q u v is memory budget = grind arith

-- a verdict on an opening
pub decides_open : (b : Book) (f : ℕ) (v : Verdict) → DecidesFor (problem_of b.policy f) no_users no_steps v → DecidesDeed b (deed.Open f) v
decides_open b f v h = grind arith

-- a verdict on a claim
pub decides_claim : (b : Book) (d : Duty) (v : Verdict) →
    DecidesFor (problem_of b.policy d.case.flow) (assigned_with d.case d.step d.user) (finished_of d.case) v → DecidesDeed b (deed.Claim d) v
decides_claim b d v h = grind arith

-- a verdict on a change of the policy
decides_change : (b : Book) (a : Amendment) (v : Verdict) → DecidesChange b a v → DecidesDeed b (deed.Change a) v
decides_change b a v h = grind arith

pub change_listed : (b : Book) (a : Amendment) (r : Result Verdict (Fault OverBudget)) → IfOk r (DecidesChange b a) → IfOk r (DecidesDeed b (deed.Change a))
change_listed b a r is = grind (arith, decides_change)

-- what was not found out over the open cases decides
pub unfound_decides : (b : Book) (d : Deed) (u : Fault OverBudget) (v : Verdict) → is_over_open d ≡ true → v ≡ verdict_without u → DecidesDeed b d v
unfound_decides b d u v over is = grind arith
