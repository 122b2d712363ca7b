use Rattle.std.proofs.Common.{sym, subst}
use Rattle.wf_board.specs.Laws.Kept.{IsOfPolicy}
use Rattle.wf_board.proofs.Amended.{of_policy_amended}
use Rattle.case_views.proofs.stranded.stays_completable.Goals as goal

pub is_completable-requires-clause-within : goal.is_completable-requires-clause-within
is_completable-requires-clause-within c =
    let known = of_policy_amended c.args.revision.now.before.now c.args.revision.now.amendment.now c.args.case.now c.args.revision.now.allowed.found
    c.requires.known in
    (subst (λ q. IsOfPolicy q c.args.case.now) (sym c.args.revision.now.made) known).users
