use Rattle.std.proofs.Common.{sym, subst, ◌∙◌}
use Rattle.std.specs.Prelude.{MatchBool}
use Rattle.policy_book.specs.Policies.{problem_of}
use Rattle.policy_book.specs.Laws.Plans.{IsWellFormed}
use Rattle.admin_edits.specs.ClaimCauses.{first_cause}
use Rattle.wf_board.specs.Views.{IsGrantable}
use Rattle.case_views.proofs.Listing.{clear_of, told_by}
use Rattle.case_views.proofs.work_lists.is_granted.Goals as goal

pub returns : goal.returns
returns c =
    let p = c.args.p.now in
    let k = c.args.case.now in
    let well = subst (λ f. IsWellFormed (problem_of p f)) c.flow.ensures c.rules-well_formed.ensures.well_formed in
    let clear = clear_of (first_cause p k c.args.step c.args.u) (sym c.has_cause.ensures ∙ c.if-has_cause.false) in
    subst (λ b. MatchBool b (IsGrantable p k c.args.step c.args.u) (¬ IsGrantable p k c.args.step c.args.u)) (sym c.is_plan.ensures)
    (told_by p k c.args.step c.args.u c.in_ok-outcome.outcome well clear c.in_ok-outcome.ensures)
