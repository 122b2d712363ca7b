use Rattle.std.proofs.Common.{◌<◌, length, sym, ap, subst, ◌∙◌}
use Rattle.std.specs.Prelude.{MatchBool}
use Rattle.case_record.specs.Cases.{CaseShape}
use Rattle.wf_board.specs.Boards.{numbered}
use Rattle.wf_board.specs.Views.{IsGrantable}
use Rattle.case_views.proofs.Listing.{step_more}
use Rattle.case_views.proofs.work_lists.items_of.Goals as goal

pub listing-preserved : goal.listing-preserved
listing-preserved c = λ p u tells.
    let row = c.args.row.now in
    let s = c.listing.s in
    let below = subst (λ n. s < n) (c.steps-count.ensures.count ∙ ap (λ (k : CaseShape). length k.states) c.case.ensures) c.listing-test.true in
    let told = subst (λ b. MatchBool b (IsGrantable p row.case s u) (¬ IsGrantable p row.case s u)) (sym c.has.ensures.flag) (tells.told s below) in
    step_more p u (numbered row) s c.listing.items c.add_step.new.items (c.listing.invariant p u tells) (c.in_ok-add_step.ensures p u told)
