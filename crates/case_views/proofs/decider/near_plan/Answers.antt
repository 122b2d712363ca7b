use Rattle.std.proofs.Common.{ℕ, List, Option, None, Some, IfSome, Ok, sym, subst}
use Rattle.policy_book.specs.Policies.{problem_of}
use Rattle.policy_book.specs.Laws.Plans.{IsValidPlan}
use Rattle.case_record.specs.Cases.{finished_of}
use Rattle.admin_edits.specs.ClaimCauses.{assigned_with}
use Rattle.wf_board.specs.declared.deed.Deed.TheVariants as deed
use Rattle.wf_board.specs.declared.deed.Duty.{Duty}
use Rattle.wf_board.specs.Boards.{book_of}
use Rattle.wf_board.specs.Laws.States.{Book}
use Rattle.wf_board.specs.Verdicts.{IsPlanFor}
use Rattle.case_views.proofs.decider.near_plan.Goals as goal

-- a valid plan with the step given is one for the claim
claim_planned : (b : Book) (d : Duty) (o : Option (List ℕ)) →
    IfSome o (IsValidPlan (problem_of b.policy d.case.flow) (assigned_with d.case d.step d.user) (finished_of d.case)) →
    IfSome o (IsPlanFor b (Ok (deed.Claim d)))
claim_planned b d None valid = tt
claim_planned b d (Some plan) valid = valid

pub returns-in-Claim : goal.returns-in-Claim
returns-in-Claim c =
    let b = book_of c.args.p.now c.args.cases.now in
    subst (λ d. IfSome c.near_claim.result (IsPlanFor b (Ok d))) (sym c.in-Claim.is)
    (claim_planned b c.in-Claim.duty c.near_claim.result c.near_claim.ensures)
