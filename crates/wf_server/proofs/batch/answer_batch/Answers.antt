use Rattle.std.proofs.Common.{Err, arith}
use Rattle.std.proofs.lemmas.Grind.{common_steps}
use Rattle.wf_server.proofs.BatchLaws.{answers_none, batch_answers}
use Rattle.wf_server.proofs.ServedOn.{loaded_on, loaded_ready, on_then}
use Rattle.wf_server.specs.Batches.{told_of}
use Rattle.wf_server.proofs.batch.answer_batch.Goals as goal

pub returns-in-Ok-clause-answers : goal.returns-in-Ok-clause-answers
returns-in-Ok-clause-answers g c held answered =
    batch_answers held (g.K.Sink.held c.args.sink.now) (g.K.Sink.held c.answer_loaded.new.sink) c.args.desk c.take_batch.new.desk c.answer_loaded.result.0
    c.args.told.now c.take_batch.new.told
    c.args.batch.now c.answer_loaded.result.1
    (record {
      setting = c.take_batch.ensures.setting;
      entries = c.take_batch.ensures.entries;
      loads = c.in-Ok.ensures.loaded;
      start = c.in-Ok.ensures.start;
      jobs = c.in-Ok.ensures.added.jobs;
      ends = c.in-Ok.ensures.added.ends;
    })
    c.answer_loaded.ensures.on.jobs answered (c.answer_loaded.ensures.answers held) c.answer_loaded.ensures.ending

pub returns-in-Err-clause-answers : goal.returns-in-Err-clause-answers
returns-in-Err-clause-answers g c held answered =
    let old = c.args.desk in
    let d = c.take_batch.new.desk in
    answers_none held (g.K.Sink.held c.args.sink.now) old d (told_of old c.args.told.now) c.args.batch.now (told_of d c.take_batch.new.told)
    (Err c.from.result) answered c.take_batch.ensures.setting
    c.in-Err.ensures.stay
    (grind (arith, common_steps))

pub answer_loaded-requires-clause-ready : goal.answer_loaded-requires-clause-ready
answer_loaded-requires-clause-ready g c =
    loaded_ready c.args.desk c.take_batch.new.desk c.args.batch.now c.take_batch.ensures.setting c.in-Ok.ensures.loaded c.requires.takes.some
    c.requires.takes.follows.of_lanes

pub returns-in-Ok-clause-on : goal.returns-in-Ok-clause-on
returns-in-Ok-clause-on g c =
    on_then _ c.args.desk c.take_batch.new.desk c.answer_loaded.result.0
    (loaded_on _ c.args.desk c.take_batch.new.desk c.take_batch.ensures.setting c.take_batch.ensures.entries) c.answer_loaded.ensures.on.on

pub returns-in-Err-clause-on : goal.returns-in-Err-clause-on
returns-in-Err-clause-on g c = loaded_on _ c.args.desk c.take_batch.new.desk c.take_batch.ensures.setting c.take_batch.ensures.entries
