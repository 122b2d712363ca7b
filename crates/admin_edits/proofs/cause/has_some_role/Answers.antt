use Rattle.std.proofs.Common.{◌≡◌, ◌<◌, true, sym, ap, length, arith}
use Rattle.rbac_state.specs.Laws.Rosters.{has_role}
use Rattle.policy_book.proofs.Counting.{any_below-at}
use Rattle.admin_edits.proofs.cause.has_some_role.Goals as goal

pub returns-then-has : goal.returns-then-has
returns-then-has c =
    let below : c.roles.r < length c.args.roster.now.roles = omega (arith, c.roles-test.true, c.len-r-end.ensures.count, ap length c.roles-2.ensures.names) in
    let has : has_role c.args.roster.now c.args.u c.roles.r ≡ true = rw (c.if-has.ensures) in
    sym (any_below-at (length c.args.roster.now.roles) c.roles.r (λ r. has_role c.args.roster.now c.args.u r) below has)
