use Rattle.std.proofs.Common.{◌∙◌, ap, length, subst, sym}
use Rattle.wf_desk.specs.Desks.{AnswersPart, AreOfLanes, DeskShape, IsDone}
use Rattle.transcript_commands.specs.Unserved.{HasStoppedIn}
use Rattle.transcript_commands.proofs.GoingOn.{goes_on_at, none_told}
use Rattle.transcript_commands.proofs.Rests.{lanes_between}
use Rattle.transcript_commands.proofs.resumed.take_rest.Goals as goal

pub behind-requires : goal.behind-requires
behind-requires c = record { none = none_told c.args.desk.now c.requires.restored }

pub resume_batch-requires-clause-done : goal.resume_batch-requires-clause-done
resume_batch-requires-clause-done c = subst (λ (d : DeskShape). IsDone d) (sym c.behind.ensures) c.requires.restored.done

pub resume_batch-requires-clause-lanes : goal.resume_batch-requires-clause-lanes
resume_batch-requires-clause-lanes c =
    let u = c.in_ok-unserved.unserved in
    subst (λ n. AreOfLanes n c.as_slice.result.now) (sym (ap (λ (d : DeskShape). d.lanes) c.behind.ensures))
    (subst (AreOfLanes c.args.desk.now.lanes) (sym (c.as_slice.ensures ∙ c.in_ok-unserved.ensures.stopped.jobs))
    (lanes_between c.args.desk.now.lanes u.from u.next c.args.batch.now.jobs c.requires.order.of_lanes))

pub resume_batch-requires-clause-part : goal.resume_batch-requires-clause-part
resume_batch-requires-clause-part c =
    let u = c.in_ok-unserved.unserved in
    subst (λ es. AnswersPart es u.from c.as_slice.result.now) (sym (ap (λ (d : DeskShape). d.entries) c.behind.ensures))
    (subst (λ js. AnswersPart c.args.desk.now.entries u.from js) (sym c.as_slice.ensures)
    (subst (λ es. AnswersPart es u.from u.jobs) c.journal.ensures.entries c.in_ok-unserved.ensures.answers))

pub returns : goal.returns
returns c =
    let u = c.in_ok-unserved.unserved in
    let known =
    subst (λ es. HasStoppedIn c.args.batch.now.jobs c.args.batch.now.ends (length es) u) c.journal.ensures.entries c.in_ok-unserved.ensures.stopped
    in
    goes_on_at c.args.desk.now c.args.batch.now u.from u.next u.earlier u.jobs c.as_slice.result.now c.behind.new.self c.resume_batch.new.self
    c.resume_batch.new.self.spare c.resume_batch.new.self.board.cases.spare c.requires.restored c.behind.ensures c.in_ok-resume_batch.ensures.loaded
    c.as_slice.ensures known.from known.next known.jobs known.earlier
