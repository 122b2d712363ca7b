use Rattle.std.proofs.Common.{◌<◌, refl, sym, ap, subst, ◌∙◌}
use Rattle.line_reader.specs.BatchReader.{BatchReaderShape}
use Rattle.line_reader.specs.Jobs.{next_input}
use Rattle.run_record.specs.Fault.{status_of}
use Rattle.run_record.specs.Report.{told_by}
use Rattle.run_record.specs.Laws.Run.{streams_of}
use Rattle.transcript_commands.specs.declared.start.TheConstants.{PIECE}
use Rattle.wf_server.specs.Batches.{told_of}
use Rattle.wf_server.proofs.ResumeLaws.{begun_lanes, begun_order, begun_told, served_begun, serving_begun, stops_begun}
use Rattle.wf_server.proofs.ServedOn.{behind_then, told_then}
use Rattle.wf_server.proofs.SessionLaws.{lanes_of}
use Rattle.wf_server.proofs.going_on.go_on.Goals as goal

pub answer_requests-served-requires-clause-stands : goal.answer_requests-served-requires-clause-stands
answer_requests-served-requires-clause-stands g c =
    let begun = c.requires.begun.1.1.1 in
    record {
      ready = record { some = c.requires.some; of_lanes = begun_lanes _ _ _ c.args.beginning begun };
      restored = begun.restored;
      stands = begun.stands;
    }

pub answer_requests-served-requires-clause-file : goal.answer_requests-served-requires-clause-file
answer_requests-served-requires-clause-file g c =
    let begun = c.requires.begun.1.1.1 in
    record { order = begun_order _ _ _ c.args.beginning begun; to = begun_told _ _ _ c.args.beginning _ begun refl refl }

pub serve_batches-requires-clause-ready : goal.serve_batches-requires-clause-ready
serve_batches-requires-clause-ready g c =
    let reads = c.requires.begun.1.1.1.reader in
    record { going = ap (λ (r : BatchReaderShape). r.cut.stop) reads; handed = ap (λ (r : BatchReaderShape). r.cut.ends) reads }

pub serve_batches-requires-clause-lanes : goal.serve_batches-requires-clause-lanes
serve_batches-requires-clause-lanes g c =
    subst (λ n. 0 < n) (sym (lanes_of c.args.beginning.desk c.answer_requests-served.result.0 c.answer_requests-served.ensures.on.setting)) c.requires.some

pub serve_batches-requires-clause-serving : goal.serve_batches-requires-clause-serving
serve_batches-requires-clause-serving g c =
    let before = streams_of g.S.Source.left g.S.Source.faults g.K.Sink.held g.K.Sink.faults c.args.source.now c.args.sink.now in
    let cut = c.requires.begun.1.0 in (
      next_input cut,
      (
        before,
        serving_begun _ cut _ c.args.beginning before _ c.answer_requests-served.result.0
            (told_of c.answer_requests-served.result.0 c.answer_requests-served.new.told)
            c.requires.begun.1.1.1 c.answer_requests-served.ensures.on.setting refl refl (rw c.in-Ok.is at c.answer_requests-served.ensures.counts)
            (rw c.in-Ok.is at c.answer_requests-served.ensures.answers),
      ),
    )

pub returns-in-Ok-clause-served : goal.returns-in-Ok-clause-served
returns-in-Ok-clause-served g c s cut transcript h =
    let before = streams_of g.S.Source.left g.S.Source.faults g.K.Sink.held g.K.Sink.faults c.args.source.now c.args.sink.now in
    let mid = streams_of g.S.Source.left g.S.Source.faults g.K.Sink.held g.K.Sink.faults c.args.source.now c.answer_requests-served.new.sink in
    let d = c.answer_requests-served.result.0 in
    let serving = serving_begun s cut transcript c.args.beginning before mid d (told_of d c.answer_requests-served.new.told) h
    c.answer_requests-served.ensures.on.setting refl refl (rw c.in-Ok.is at c.answer_requests-served.ensures.counts)
    (rw c.in-Ok.is at c.answer_requests-served.ensures.answers) in
    served_begun s cut transcript c.args.beginning d c.args.beginning.reader.room before _ (told_by c.serve_batches.result) c.serve_batches.result.fault h
    c.histories_keep_completable.ensures c.histories_are_exact.ensures c.answer_requests-served.ensures.on.setting
    (ap (λ (r : BatchReaderShape). r.room) h.reader) c.serve_batches.ensures.behind.legal
    (c.serve_batches.ensures.serves (next_input cut) before serving)

pub returns-in-Ok-clause-behind : goal.returns-in-Ok-clause-behind
returns-in-Ok-clause-behind g c =
    behind_then _ c.args.beginning.desk c.answer_requests-served.result.0 (told_by c.serve_batches.result).entries c.requires.begun.1.1.1.restored
    c.answer_requests-served.ensures.on c.serve_batches.ensures.behind

pub returns-clause-served : goal.returns-clause-served
returns-clause-served g c s cut transcript h =
    let before = streams_of g.S.Source.left g.S.Source.faults g.K.Sink.held g.K.Sink.faults c.args.source.now c.args.sink.now in
    let mid = streams_of g.S.Source.left g.S.Source.faults g.K.Sink.held g.K.Sink.faults c.args.source.now c.answer_requests-served.new.sink in
    let d = c.answer_requests-served.result.0 in
    let told = told_of d c.answer_requests-served.new.told in
    let fault = c.in-Err.fault in
    let serves = stops_begun s cut transcript c.args.beginning before mid d told fault h refl refl (rw c.in-Err.is at c.answer_requests-served.ensures.counts)
    (rw c.in-Err.is at c.answer_requests-served.ensures.answers) (rw c.in-Err.is at c.answer_requests-served.ensures.ending) in
    rw (c.report_of.ensures.told, c.report_of.ensures.fault)
    (served_begun s cut transcript c.args.beginning d PIECE before mid told fault h c.histories_keep_completable.ensures c.histories_are_exact.ensures
    c.answer_requests-served.ensures.on.setting refl
    c.report_of.ensures.sound.legal serves)

pub returns-clause-status : goal.returns-clause-status
returns-clause-status g c = c.report_of.ensures.status ∙ sym (ap status_of c.report_of.ensures.fault)

pub returns-clause-behind : goal.returns-clause-behind
returns-clause-behind g c =
    told_then _ c.args.beginning.desk c.answer_requests-served.result.0 (told_by c.report_of.result) _ c.report_of.ensures.told
    c.requires.begun.1.1.1.restored c.answer_requests-served.ensures.on c.report_of.ensures.sound
