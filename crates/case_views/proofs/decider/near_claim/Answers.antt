use Rattle.wf_board.proofs.Giving.{kept_valid}
use Rattle.case_views.proofs.decider.near_claim.Goals as goal

pub plan_with-requires : goal.plan_with-requires
plan_with-requires c =
    let duty = c.args.duty.now in
    let found = c.requires.found in
    record {
      known = found.case.known;
      valid = kept_valid c.args.p.now c.args.cases.now.rows duty.number duty.case c.in-Some.kept.now c.requires.kept found.case.found c.in-Some.ensures.plan;
      step = found.step;
      user = found.user;
    }
