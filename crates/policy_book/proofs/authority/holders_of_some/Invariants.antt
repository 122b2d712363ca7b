use Rattle.std.proofs.Common.{◌≡◌, ℕ, ◌&&◌}
use Rattle.std.specs.FinSet as set
use Rattle.wf_names.specs.UserSets.{has_user}
use Rattle.rbac_state.specs.Laws.Rosters.{has_role}
use Rattle.policy_book.specs.Policies.{any_below}
use Rattle.policy_book.proofs.authority.holders_of_some.Given as goal

abbrev pub invariant-roles : goal.invariant-roles
invariant-roles l = (u : ℕ) → has_user l.users u ≡ any_below l.r (λ r. has_role l.roster u r && set.contains l.flow.permits (r, l.s))
