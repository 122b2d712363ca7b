use Rattle.policy_book.specs.Policies.{problem_of}
use Rattle.case_record.specs.Cases.{finished_of}
use Rattle.admin_edits.specs.ClaimCauses.{assigned_with}
use Rattle.case_views.specs.Deciding.{DecidesFor}
use Rattle.wf_board.proofs.Giving.{kept_valid}
use Rattle.case_views.proofs.Deciding.{unfound_is, verdict_decides}
use Rattle.case_views.proofs.decider.claim_verdict.Goals as goal

pub outcome_with-requires : goal.outcome_with-requires
outcome_with-requires c =
    let duty = c.args.duty.now in
    let found = c.requires.found in
    record {
      known = found.case.known;
      valid = kept_valid c.args.p.now c.args.cases.now.rows duty.number duty.case c.in-Some.kept.now c.requires.kept found.case.found c.in-Some.ensures.plan;
      step = found.step;
      user = found.user;
    }

pub returns-in-Ok : goal.returns-in-Ok
returns-in-Ok c =
    let duty = c.args.duty.now in
    let k = duty.case in
    verdict_decides (problem_of c.args.p.now k.flow) (assigned_with k duty.step duty.user) (finished_of k) c.in-Ok.outcome c.verdict_of.result
    c.in-Ok.ensures c.verdict_of.ensures

pub returns-in-Err : goal.returns-in-Err
returns-in-Err c =
    let duty = c.args.duty.now in
    let k = duty.case in
    unfound_is (DecidesFor (problem_of c.args.p.now k.flow) (assigned_with k duty.step duty.user) (finished_of k))
    c.in-Err.unfound c.verdict_without.result c.verdict_without.ensures tt tt
