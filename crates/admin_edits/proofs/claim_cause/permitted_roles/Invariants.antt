use Rattle.std.proofs.Common.{◌≡◌, ◌++◌, ◌-◌, length}
use Rattle.std.specs.FinSet as set
use Rattle.policy_book.specs.Policies.{flow_at}
use Rattle.policy_book.specs.Laws.Refuting.{passing}
use Rattle.admin_edits.specs.ClaimCauses.{permitted_roles}
use Rattle.admin_edits.proofs.claim_cause.permitted_roles.Given as goal

abbrev pub invariant-roles : goal.invariant-roles
invariant-roles l =
    l.roles ++ passing (λ r. set.contains (flow_at l.p l.fn.f).flow.permits (r, l.s)) l.r (length l.p.roster.roles - l.r)
    ≡ permitted_roles l.p l.fn.f l.s
