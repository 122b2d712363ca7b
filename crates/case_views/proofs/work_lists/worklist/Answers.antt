use Rattle.std.proofs.Common.{IfOk, ap, subst, ◌∙◌}
use Rattle.policy_book.specs.Laws.Shapes.{PolicyShape}
use Rattle.grant_table.specs.Cases.{CasesShape}
use Rattle.case_views.specs.Listing.{IsWorkIn}
use Rattle.case_views.proofs.work_lists.worklist.Goals as goal

pub returns : goal.returns
returns c =
    subst (λ xs. IfOk c.work_in.result (IsWorkIn c.args.snap.now.policy c.args.u xs)) (c.rows.ensures ∙ ap (λ (t : CasesShape). t.rows) c.cases.ensures.cases)
    (subst (λ (q : PolicyShape). IfOk c.work_in.result (IsWorkIn q c.args.u c.rows.result.now)) c.policy.ensures.policy c.work_in.ensures)
