use Rattle.std.proofs.Common.{◌≡◌, ◌<◌, true, sym, ap, ◌&&◌, length, arith}
use Rattle.std.specs.FinSet as set
use Rattle.rbac_state.specs.Laws.Rosters.{has_role}
use Rattle.policy_book.proofs.Counting.{any_below-at}
use Rattle.policy_book.proofs.authority.some_role.Goals as goal

pub returns-then-authorises : goal.returns-then-authorises
returns-then-authorises c =
    let below : c.roles.r < length c.args.roster.now.roles = omega (arith, c.roles-test.true, c.len-r-end.ensures.count, ap length c.roles-2.ensures.names) in
    let passes : (has_role c.args.roster.now c.args.u c.roles.r && set.contains c.args.flow.now.permits (c.roles.r, c.args.s)) ≡ true =
    rw (← c.if-authorises.ensures) in
    sym (any_below-at (length c.args.roster.now.roles) c.roles.r
    (λ r. has_role c.args.roster.now c.args.u r && set.contains c.args.flow.now.permits (r, c.args.s)) below passes)
