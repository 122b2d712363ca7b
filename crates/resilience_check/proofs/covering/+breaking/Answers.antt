use Rattle.std.proofs.Common.{◌-◌, arith, refl}
use Rattle.resilience_check.specs.Lists.{users_away}
use Rattle.resilience_check.proofs.Leaving.{broken_by, withstands_by}
use Rattle.resilience_check.proofs.covering.+breaking.Goals as goal

pub can_break-returns-then-left-gt0-clause-no : goal.can_break-returns-then-left-gt0-clause-no
can_break-returns-then-left-gt0-clause-no t c none more from_on few =
    withstands_by c.args.plans.now (users_away c.args.away.now) c.args.from (c.args.left - 1) c.in-Some.plan c.in-Some.ensures
    (c.can_break_one.ensures.no none) more from_on (omega (arith, few, c.if-left-gt0.true))

pub can_break_one-returns-then-can_break-clause-yes : goal.can_break_one-returns-then-can_break-clause-yes
can_break_one-returns-then-can_break-clause-yes t c found =
    broken_by c.args.plans.now (users_away c.args.away.now) c.args.from c.args.left c.at-u.result (omega (arith, c.if-u-from.true))
    (c.if-can_break.ensures.yes refl)
