use Rattle.case_story.proofs.Founds.{Laws}
use Rattle.case_story.proofs.Told.{stops, told}
use Rattle.case_story.proofs.whole.audit_whole.Goals as goal

pub returns-in-Ok-clause-verdict : goal.returns-in-Ok-clause-verdict
returns-in-Ok-clause-verdict g c =
    let laws : Laws = record { exact = c.audit_is_exact.ensures; exclude = c.faults_exclude.ensures; one = c.next_is_one.ensures } in
    told laws c.args.s.now c.in_ok-auditor.auditor c.follow_rest.new.auditor c.as_bytes-text.result.now c.start-place.result c.in-Ok.verdict
    c.in_ok-auditor.ensures.session c.in_ok-auditor.ensures.auditor
    c.as_bytes-text.ensures c.start-place.ensures.at c.start-place.ensures.number c.in-Ok.ensures.stops

pub returns-in-Ok-clause-stopped : goal.returns-in-Ok-clause-stopped
returns-in-Ok-clause-stopped g c =
    (stops c.args.s.now c.in_ok-auditor.auditor c.follow_rest.new.auditor c.as_bytes-text.result.now c.start-place.result c.in-Ok.verdict
    c.in_ok-auditor.ensures.auditor
    c.as_bytes-text.ensures c.start-place.ensures.at c.start-place.ensures.number c.in-Ok.ensures.stops).stopped
