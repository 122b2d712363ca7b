use Rattle.std.proofs.Common.{◌≡◌, false}
use Rattle.rbac_state.specs.Laws.Rosters.{has_role}
use Rattle.policy_book.specs.Policies.{any_below}
use Rattle.admin_edits.proofs.cause.has_some_role.Given as goal

-- none of the roles so far
abbrev pub invariant-roles : goal.invariant-roles
invariant-roles l = any_below l.r (λ r. has_role l.roster l.u r) ≡ false
