use Rattle.std.proofs.Common.{ℕ, ◌<◌, ◌∙◌, refl, sym, subst}
use Rattle.run_record.specs.Report.{told_by}
use Rattle.run_record.specs.Laws.Run.{streams_of}
use Rattle.wf_server.specs.Sessions.{Setting}
use Rattle.wf_server.specs.Batches.{told_of, Serves}
use Rattle.wf_server.specs.Ways.{setting_of}
use Rattle.wf_server.proofs.ServedOn.{on_then, same_on, told_behind}
use Rattle.wf_server.proofs.SessionLaws.{lanes_of}
use Rattle.wf_server.proofs.session.serve_batches.Goals as goal

pub serving-init : goal.serving-init
serving-init g c = record {
  ready = c.requires.ready;
  room = refl;
  on = same_on _ c.args.desk;
  serving = λ first before serving. serving;
}

pub serve_batch-next-requires-clause-lanes : goal.serve_batch-next-requires-clause-lanes
serve_batch-next-requires-clause-lanes g c = subst (λ n. 0 < n) (sym (lanes_of c.args.desk c.serving.desk c.serving.invariant.on.setting)) c.requires.lanes

pub serve_batch-next-requires-clause-serving : goal.serve_batch-next-requires-clause-serving
serve_batch-next-requires-clause-serving g c =
    let first = c.requires.serving.0 in
    let before = c.requires.serving.1.0 in
    (first, (before, c.serving.invariant.serving first before c.requires.serving.1.1))

pub serving-preserved : goal.serving-preserved
serving-preserved g c = record {
  ready = (c.serve_batch-next.ensures.goes_on c.in-None.is).ready;
  room = c.serve_batch-next.ensures.room ∙ c.serving.invariant.room;
  on = on_then _ c.args.desk c.serving.desk c.serve_batch-next.result.0 c.serving.invariant.on c.serve_batch-next.ensures.on;
  serving = λ first before begun. rw c.in-None.is at c.serve_batch-next.ensures.batch first before (c.serving.invariant.serving first before begun);
}

pub serving-smaller : goal.serving-smaller
serving-smaller g c = (c.serve_batch-next.ensures.goes_on c.in-None.is).less

pub returns-in-Some-clause-serves : goal.returns-in-Some-clause-serves
returns-in-Some-clause-serves g c first before begun =
    let after = streams_of g.S.Source.left g.S.Source.faults g.K.Sink.held g.K.Sink.faults c.serve_batch-next.new.source c.serve_batch-next.new.sink in
    let told = told_of c.serve_batch-next.result.0 c.serve_batch-next.new.told in
    let same = c.serve_batch-next.ensures.on.setting ∙ c.serving.invariant.on.setting in
    let served = rw c.in-Some.is at c.serve_batch-next.ensures.batch first before (c.serving.invariant.serving first before begun) in
    rw (c.report_of.ensures.told, c.report_of.ensures.fault)
    (subst (λ (set : Setting). Serves set first c.args.reader.now.room before after told c.in-Some.fault) same
    (subst (λ (n : ℕ). Serves (setting_of c.serve_batch-next.result.0) first n before after told c.in-Some.fault)
    (c.serve_batch-next.ensures.room ∙ c.serving.invariant.room) served))

pub returns-in-Some-clause-behind : goal.returns-in-Some-clause-behind
returns-in-Some-clause-behind g c =
    told_behind _ c.args.desk c.serve_batch-next.result.0 (told_by c.report_of.result) _ c.report_of.ensures.told
    (on_then _ c.args.desk c.serving.desk c.serve_batch-next.result.0 c.serving.invariant.on c.serve_batch-next.ensures.on) c.report_of.ensures.sound
