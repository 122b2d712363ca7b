use Rattle.std.specs.Prelude.{IfSome}
use Rattle.case_story.specs.Verdicts.{right_lines}
use Rattle.std.proofs.Common.{◌≡◌, subst, ap, Ok, ◌∙◌, string_bytes}
use Rattle.case_story.specs.Followed.{StopsAudit}
use Rattle.case_story.specs.Sessions.{audit_in}
use Rattle.case_story.proofs.Following.{stepped, walked}
use Rattle.case_story.proofs.Founds.{Laws}
use Rattle.case_story.proofs.Told.{followed, prints, reached, stops, told}
use Rattle.case_story.proofs.now.audit_now_by.Goals as goal

pub returns-in_ok-printed-in-Some-clause-finds : goal.returns-in_ok-printed-in-Some-clause-finds
returns-in_ok-printed-in-Some-clause-finds c =
    let laws : Laws = record { exact = c.audit_is_exact.ensures; exclude = c.faults_exclude.ensures; one = c.next_is_one.ensures } in
    told laws c.args.s.now c.args.auditor.now c.follow_to.new.auditor c.as_bytes-text.result.now c.start-place.result c.in-Some.verdict
    c.requires.session.session c.requires.session.auditor c.as_bytes-text.ensures c.start-place.ensures.at c.start-place.ensures.number
    (λ first h. stepped first c.follow_to.new.auditor c.as_bytes-text.result.now c.follow_to.new.place c.in_ok-verdict.field-0 c.in-Some.verdict
    c.in-Some.is (c.in_ok-verdict.ensures.steps first h))

pub returns-in_ok-printed-in-Some-clause-prints : goal.returns-in_ok-printed-in-Some-clause-prints
returns-in_ok-printed-in-Some-clause-prints c =
    let h = (stops c.args.s.now c.args.auditor.now c.follow_to.new.auditor c.as_bytes-text.result.now c.start-place.result c.in-Some.verdict
    c.requires.session.auditor c.as_bytes-text.ensures c.start-place.ensures.at c.start-place.ensures.number
    (λ first h. stepped first c.follow_to.new.auditor c.as_bytes-text.result.now c.follow_to.new.place c.in_ok-verdict.field-0 c.in-Some.verdict
    c.in-Some.is (c.in_ok-verdict.ensures.steps first h))).stopped in
    prints c.part_is_exact.ensures c.args.s.now c.follow_to.new.auditor c.follow_to.new.place.number c.policy.result.now
    (string_bytes c.in_ok-printed-in-Some.printed.remarks) c.in_ok-printed-in-Some.printed.is_less
    (string_bytes c.in_ok-printed-in-Some.printed.document) c.requires.session.session
    (subst (λ n. StopsAudit (audit_in c.args.s.now) c.follow_to.new.auditor c.args.s.now.transcript n)
    (subst (λ o. IfSome o (λ v. right_lines v ≡ c.follow_to.new.place.number)) c.in-Some.is c.in_ok-verdict.ensures.number) h)
    (c.policy.ensures.policy ∙ ap (λ st. st.book.policy) c.board.ensures) c.in_ok-printed-in-Some.ensures.remarks c.in_ok-printed-in-Some.ensures.less
    c.in_ok-printed-in-Some.ensures.document

pub returns-in_ok-verdict-in-None-clause-finds : goal.returns-in_ok-verdict-in-None-clause-finds
returns-in_ok-verdict-in-None-clause-finds c =
    let laws : Laws = record { exact = c.audit_is_exact.ensures; exclude = c.faults_exclude.ensures; one = c.next_is_one.ensures } in
    told laws c.args.s.now c.args.auditor.now c.follow_rest.new.auditor c.as_bytes-text.result.now c.start-place.result c.in_ok-verdict-in-None.verdict
    c.requires.session.session c.requires.session.auditor c.as_bytes-text.ensures c.start-place.ensures.at c.start-place.ensures.number
    (λ first h. c.in_ok-verdict-in-None.ensures.stops first (walked first c.follow_to.new.auditor c.as_bytes-text.result.now c.follow_to.new.place
    c.in_ok-verdict.field-0 c.in-None.is (c.in_ok-verdict.ensures.steps first h)))

pub returns-in_ok-verdict-in-None-clause-number : goal.returns-in_ok-verdict-in-None-clause-number
returns-in_ok-verdict-in-None-clause-number c =
    reached c.args.s.now c.args.auditor.now c.follow_to.new.auditor c.follow_rest.new.auditor c.as_bytes-text.result.now c.start-place.result
    c.follow_to.new.place c.args.most c.in_ok-verdict-in-None.verdict c.requires.session.auditor c.as_bytes-text.ensures c.start-place.ensures.at
    c.start-place.ensures.number
    (λ first h. walked first c.follow_to.new.auditor c.as_bytes-text.result.now c.follow_to.new.place c.in_ok-verdict.field-0
    c.in-None.is (c.in_ok-verdict.ensures.steps first h)) c.in_ok-verdict-in-None.ensures.stops (c.in_ok-verdict.ensures.all (ap Ok c.in-None.is))
    c.in_ok-verdict.ensures.between.most c.in_ok-verdict-in-None.ensures.more

pub returns-in_ok-verdict-in-None-clause-prints : goal.returns-in_ok-verdict-in-None-clause-prints
returns-in_ok-verdict-in-None-clause-prints c =
    let h = followed c.args.s.now c.args.auditor.now c.follow_to.new.auditor c.as_bytes-text.result.now c.start-place.result c.follow_to.new.place
    c.requires.session.auditor c.as_bytes-text.ensures c.start-place.ensures.at c.start-place.ensures.number
    (λ first h. walked first c.follow_to.new.auditor c.as_bytes-text.result.now c.follow_to.new.place c.in_ok-verdict.field-0 c.in-None.is
    (c.in_ok-verdict.ensures.steps first h)) in
    prints c.part_is_exact.ensures c.args.s.now c.follow_to.new.auditor c.follow_to.new.place.number c.policy-in-None.result.now
    (string_bytes c.in_ok-printed-in-None.printed.remarks) c.in_ok-printed-in-None.printed.is_less
    (string_bytes c.in_ok-printed-in-None.printed.document) c.requires.session.session h
    (c.policy-in-None.ensures.policy ∙ ap (λ st. st.book.policy) c.board-in-None.ensures) c.in_ok-printed-in-None.ensures.remarks
    c.in_ok-printed-in-None.ensures.less c.in_ok-printed-in-None.ensures.document
