use Rattle.std.proofs.Common.{◌≡◌, ◌==◌, ◌&&◌, false, not}
use Rattle.rbac_state.specs.Laws.Rosters.{has_role}
use Rattle.policy_book.specs.Policies.{any_below}
use Rattle.admin_edits.proofs.cause.has_other.Given as goal

-- nobody so far
abbrev pub invariant-users : goal.invariant-users
invariant-users l = any_below l.v (λ v. not (v == l.u) && has_role l.roster v l.r) ≡ false
