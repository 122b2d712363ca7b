use Rattle.std.proofs.Common.{◌≡◌, true, sym, ap, subst, ◌∙◌}
use Rattle.wf_names.specs.States.{is_live}
use Rattle.policy_book.specs.Policies.{problem_of}
use Rattle.case_record.specs.Cases.{CaseShape, assigned_of, finished_of, is_open}
use Rattle.wsp_solver.specs.Searches.{HasSolved}
use Rattle.wf_board.proofs.Unbroken.{plan_of_row}
use Rattle.case_views.proofs.edit_decider.left_at.Goals as goal

pub plan_for-requires-clause-valid : goal.plan_for-requires-clause-valid
plan_for-requires-clause-valid c =
    plan_of_row c.args.revision.now.before.now c.args.row.now.case c.case-in-Some.result.now c.args.row.now.plan c.in-Some.kept c.in-Some.ensures
    c.case-in-Some.ensures
    c.requires.planned

pub returns-in_ok-plan_for-in-Some : goal.returns-in_ok-plan_for-in-Some
returns-in_ok-plan_for-in-Some c =
    let k = c.args.row.now.case in
    let live : is_open k ≡ true = ap is_open (sym c.case.ensures) ∙ ap is_live (sym c.phase.ensures) ∙ sym c.is_live.ensures ∙ c.if-is_live.true in (
      live,
      subst (λ (x : CaseShape). HasSolved (problem_of c.args.revision.now.after.now x.flow) (assigned_of x) (finished_of x) c.in_ok-plan_for-in-Some.field-0)
          c.case-in-Some.ensures c.in_ok-plan_for-in-Some.ensures,
    )
