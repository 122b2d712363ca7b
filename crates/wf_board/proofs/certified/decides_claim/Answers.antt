use Rattle.case_record.specs.Cases.{finished_of}
use Rattle.admin_edits.specs.ClaimCauses.{assigned_with}
use Rattle.wf_board.proofs.Certificates.{certificate_same, claim_within}
use Rattle.wf_board.proofs.certified.decides_claim.Goals as goal

pub is_certificate-requires : goal.is_certificate-requires
is_certificate-requires c =
    rw (c.flow.ensures, c.assigned_with.ensures)
    (claim_within c.args.p.now c.args.cases.now.rows c.args.duty.now c.requires.found)

pub returns : goal.returns
returns c =
    let duty = c.args.duty.now in
    let k = duty.case in
    certificate_same c.args.p.now k.flow c.flow.result (assigned_with k duty.step duty.user) c.assigned_with.result (finished_of k) c.finished.result
    c.args.verdict.now c.is_certificate.result
    c.flow.ensures c.assigned_with.ensures c.finished.ensures.value c.is_certificate.ensures
