use Rattle.std.proofs.Common.{◌≡◌, ◌==◌, ◌&&◌, ◌<◌, not, true, sym, ap, length, arith}
use Rattle.rbac_state.specs.Laws.Rosters.{has_role}
use Rattle.policy_book.proofs.Counting.{any_below-at}
use Rattle.admin_edits.proofs.cause.has_other.Goals as goal

pub returns-then-is_other : goal.returns-then-is_other
returns-then-is_other c =
    let below : c.users.v < length c.args.roster.now.users = omega (arith, c.users-test.true, c.len-v-end.ensures.count, ap length c.users-2.ensures.names) in
    let is : (not (c.users.v == c.args.u) && has_role c.args.roster.now c.users.v c.args.r) ≡ true = rw (c.if-is_other.ensures) in
    sym (any_below-at (length c.args.roster.now.users) c.users.v (λ v. not (v == c.args.u) && has_role c.args.roster.now v c.args.r) below is)
