use Rattle.std.proofs.Common.{◌<◌, sym, subst}
use Rattle.line_reader.specs.Laws.{AreInOrder}
use Rattle.wf_server.proofs.FileLaws.{earlier, first_added, first_fails, first_loaded, told_at}
use Rattle.wf_server.proofs.ServedOn.{on_then}
use Rattle.wf_server.proofs.SessionLaws.{lanes_of}
use Rattle.wf_server.proofs.file.answer_requests.Goals as goal

pub answer_file-requires-clause-lanes : goal.answer_file-requires-clause-lanes
answer_file-requires-clause-lanes g c =
    subst (λ n. 0 < n) (sym (lanes_of c.args.desk c.answer_loaded-served.result.0 c.answer_loaded-served.ensures.on.on.setting)) c.requires.stands.ready.some

pub answer_file-requires-clause-file : goal.answer_file-requires-clause-file
answer_file-requires-clause-file g c = record {
  order = subst (λ n. AreInOrder n c.args.file.now.jobs c.args.file.now.ends)
      (sym (lanes_of c.args.desk c.answer_loaded-served.result.0 c.answer_loaded-served.ensures.on.on.setting)) c.requires.file.order;
  to = told_at c.args.file.now.jobs c.args.file.now.ends c.args.count c.args.desk c.answer_loaded-served.result.0 c.args.told.now
      c.answer_loaded-served.ensures.on.jobs c.requires.file.to;
}

pub answer_file-requires-clause-answered : goal.answer_file-requires-clause-answered
answer_file-requires-clause-answered g c =
    let held = g.K.Sink.held c.args.sink.now in
    let d = c.args.desk in
    let e = c.answer_loaded-served.result.0 in
    let a = c.args.told.now in
    let stands = c.requires.stands.stands in (
      held,
      rw c.in-Ok.is at c.answer_loaded-served.ensures.answers held (earlier d a stands) a
          (first_loaded held d a stands c.requires.stands.restored) (first_added d a stands),
    )

pub returns-in-Ok-clause-answers : goal.returns-in-Ok-clause-answers
returns-in-Ok-clause-answers g c =
    let held = g.K.Sink.held c.args.sink.now in
    let d = c.args.desk in
    let e = c.answer_loaded-served.result.0 in
    let a = c.args.told.now in
    let stands = c.requires.stands.stands in
    c.answer_file.ensures.answers held
    (rw c.in-Ok.is at c.answer_loaded-served.ensures.answers held (earlier d a stands) a (first_loaded held d a stands c.requires.stands.restored)
    (first_added d a stands))

pub returns-in-Ok-clause-on : goal.returns-in-Ok-clause-on
returns-in-Ok-clause-on g c =
    on_then _ c.args.desk c.answer_loaded-served.result.0 c.answer_file.result.0 c.answer_loaded-served.ensures.on.on c.answer_file.ensures.on

pub returns-in-Err-clause-answers : goal.returns-in-Err-clause-answers
returns-in-Err-clause-answers g c =
    let held = g.K.Sink.held c.args.sink.now in
    let d = c.args.desk in
    let e = c.answer_loaded-served.result.0 in
    let a = c.args.told.now in
    let stands = c.requires.stands.stands in
    first_fails c.args.file.now.jobs c.args.file.now.ends c.args.count held (g.K.Sink.held c.answer_loaded-served.new.sink) d e a c.in-Err.fault
    c.answer_loaded-served.ensures.on.jobs c.requires.file.to
    (rw c.in-Err.is at c.answer_loaded-served.ensures.answers held (earlier d a stands) a (first_loaded held d a stands c.requires.stands.restored)
    (first_added d a stands))
    (rw c.in-Err.is at c.answer_loaded-served.ensures.some)

pub returns-in-Err-clause-on : goal.returns-in-Err-clause-on
returns-in-Err-clause-on g c = c.answer_loaded-served.ensures.on.on
