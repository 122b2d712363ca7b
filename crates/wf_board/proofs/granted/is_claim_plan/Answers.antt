use Rattle.case_record.specs.Cases.{finished_of}
use Rattle.admin_edits.specs.ClaimCauses.{assigned_with}
use Rattle.wf_board.specs.declared.verdict.Verdict.TheVariants as verdicts
use Rattle.wf_board.proofs.Certificates.{certificate_same}
use Rattle.wf_board.proofs.granted.is_claim_plan.Goals as goal

pub returns : goal.returns
returns c =
    let duty = c.args.duty.now in
    let k = duty.case in
    certificate_same c.args.p.now k.flow c.flow.result (assigned_with k duty.step duty.user) c.assigned_with-assigned.result (finished_of k) c.finished.result
    (verdicts.Plan c.args.plan.now) c.is_valid_plan.result
    c.flow.ensures c.assigned_with-assigned.ensures c.finished.ensures.value c.is_valid_plan.ensures
