use Rattle.case_story.proofs.Following.{stepped, walked}
use Rattle.case_story.proofs.Founds.{Laws}
use Rattle.case_story.proofs.Told.{told}
use Rattle.case_story.proofs.entry.audit_entry_by.Goals as goal

pub returns-in_ok-push_wrong-in-Some : goal.returns-in_ok-push_wrong-in-Some
returns-in_ok-push_wrong-in-Some c =
    let laws : Laws = record { exact = c.audit_is_exact.ensures; exclude = c.faults_exclude.ensures; one = c.next_is_one.ensures } in
    record {
      finds = told laws c.args.s.now c.args.auditor.now c.follow_to.new.auditor c.as_bytes-text.result.now c.start-place.result c.in-Some.verdict
          c.requires.session.session c.requires.session.auditor c.as_bytes-text.ensures c.start-place.ensures.at c.start-place.ensures.number
          (λ first h. stepped first c.follow_to.new.auditor c.as_bytes-text.result.now c.follow_to.new.place c.in_ok-verdict.field-0 c.in-Some.verdict
          c.in-Some.is (c.in_ok-verdict.ensures.steps first h));
    }

pub returns-in_ok-push_wrong-in-None : goal.returns-in_ok-push_wrong-in-None
returns-in_ok-push_wrong-in-None c =
    let laws : Laws = record { exact = c.audit_is_exact.ensures; exclude = c.faults_exclude.ensures; one = c.next_is_one.ensures } in
    record {
      finds = told laws c.args.s.now c.args.auditor.now c.follow_rest.new.auditor c.as_bytes-text.result.now c.start-place.result
          c.in_ok-verdict-in-None.verdict c.requires.session.session c.requires.session.auditor c.as_bytes-text.ensures c.start-place.ensures.at
          c.start-place.ensures.number
          (λ first h. c.in_ok-verdict-in-None.ensures.stops first (walked first c.follow_to.new.auditor c.as_bytes-text.result.now c.follow_to.new.place
          c.in_ok-verdict.field-0 c.in-None.is (c.in_ok-verdict.ensures.steps first h)));
    }
