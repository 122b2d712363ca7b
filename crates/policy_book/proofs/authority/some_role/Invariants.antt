use Rattle.std.proofs.Common.{◌≡◌, false, ◌&&◌}
use Rattle.std.specs.FinSet as set
use Rattle.rbac_state.specs.Laws.Rosters.{has_role}
use Rattle.policy_book.specs.Policies.{any_below}
use Rattle.policy_book.proofs.authority.some_role.Given as goal

abbrev pub invariant-roles : goal.invariant-roles
invariant-roles l = any_below l.r (λ r. has_role l.roster l.u r && set.contains l.flow.permits (r, l.s)) ≡ false
