use Rattle.std.proofs.Common.{ℕ, ap, subst}
use Rattle.run_record.specs.Report.{told_by}
use Rattle.run_record.specs.Laws.Run.{streams_of}
use Rattle.wf_desk.specs.Desks.{DeskShape}
use Rattle.line_reader.specs.BatchReader.{BatchReaderShape}
use Rattle.line_reader.specs.Jobs.{start}
use Rattle.line_reader.specs.Laws.{JobsAreInOrder}
use Rattle.wf_server.specs.Batches.{Serves}
use Rattle.wf_server.specs.Ways.{setting_of}
use Rattle.wf_server.proofs.ServedOn.{bare_behind}
use Rattle.wf_server.proofs.SessionLaws.{bare_serves, session_begins}
use Rattle.wf_server.proofs.session.serve_desk.Goals as goal

pub serve_batches-requires-clause-serving : goal.serve_batches-requires-clause-serving
serve_batches-requires-clause-serving g c =
    let d = c.args.desk in (
      start d.lanes,
      (
        _,
        session_begins _ c.in-Ok.reader d c.new-told.result d.opening d.lanes d.rounds c.args.room
            (rw c.lanes-count.ensures.count at c.jobs_are_in_order.ensures)
            c.requires.new c.new-told.ensures.ends (rw c.lanes-count.ensures.count at c.in-Ok.ensures),
      ),
    )

pub returns-in-Ok-clause-serves : goal.returns-in-Ok-clause-serves
returns-in-Ok-clause-serves g c =
    let streams = streams_of g.S.Source.left g.S.Source.faults g.K.Sink.held g.K.Sink.faults c.args.source.now c.args.sink.now in
    let after = streams_of g.S.Source.left g.S.Source.faults g.K.Sink.held g.K.Sink.faults c.serve_batches.new.source c.serve_batches.new.sink in
    let d = c.args.desk in
    let begun = session_begins streams c.in-Ok.reader d c.new-told.result d.opening d.lanes d.rounds c.args.room
    (rw c.lanes-count.ensures.count at c.jobs_are_in_order.ensures) c.requires.new c.new-told.ensures.ends
    (rw c.lanes-count.ensures.count at c.in-Ok.ensures) in
    subst (λ (m : ℕ). Serves (setting_of d) (start d.lanes) m streams after (told_by c.serve_batches.result) c.serve_batches.result.fault)
    (ap (λ (r : BatchReaderShape). r.room) c.in-Ok.ensures) (c.serve_batches.ensures.serves (start d.lanes) streams begun)

pub returns-in-Err-clause-serves : goal.returns-in-Err-clause-serves
returns-in-Err-clause-serves g c =
    bare_serves (setting_of c.args.desk) c.args.room _ (told_by c.bare_report.result) c.bare_report.result.fault
    (ap (λ (x : DeskShape). x.restored) c.requires.new) c.bare_report.ensures.told c.bare_report.ensures.fault

pub returns-in-Err-clause-behind : goal.returns-in-Err-clause-behind
returns-in-Err-clause-behind g c = bare_behind _ c.args.desk (told_by c.bare_report.result) c.requires.new c.bare_report.ensures.told
