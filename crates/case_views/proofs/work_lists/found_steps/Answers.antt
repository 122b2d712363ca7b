use Rattle.std.proofs.Common.{arith}
use Rattle.case_views.proofs.Granting.{rest_more, told_more}
use Rattle.case_views.proofs.work_lists.found_steps.Goals as goal

pub finding-preserved : goal.finding-preserved
finding-preserved c =
    let added = c.with_if-found.ensures in
    record {
      told = told_more c.args.p.now c.args.u c.args.case.now c.finding.s c.finding.found c.with_if-found.result c.in_ok-granted.granted added
          c.in_ok-granted.ensures c.finding.invariant.told c.finding.invariant.rest;
      rest = rest_more c.finding.s c.finding.found c.with_if-found.result c.in_ok-granted.granted added c.finding.invariant.rest;
    }

pub returns : goal.returns
returns c = record { told = λ t below. c.finding.invariant.told t (omega (arith, below, c.finding-test.false, c.steps-count.ensures.count)) }
