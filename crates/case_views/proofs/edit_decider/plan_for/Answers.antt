use Rattle.std.proofs.Common.{sym, subst}
use Rattle.wf_board.specs.Laws.Kept.{IsOfPolicy}
use Rattle.wf_board.proofs.Amended.{of_policy_amended}
use Rattle.case_views.proofs.edit_decider.plan_for.Goals as goal

pub outcome_of-requires-clause-within : goal.outcome_of-requires-clause-within
outcome_of-requires-clause-within c =
    let known = of_policy_amended c.args.revision.now.before.now c.args.revision.now.amendment.now c.args.case.now c.args.revision.now.allowed.found
    c.requires.known in
    (subst (λ q. IsOfPolicy q c.args.case.now) (sym c.args.revision.now.made) known).users
