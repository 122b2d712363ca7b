use Rattle.std.proofs.Common.{refl, sym, subst, ◌∙◌}
use Rattle.run_record.specs.Laws.Run.{streams_of}
use Rattle.wf_server.specs.Sessions.{handed_in}
use Rattle.wf_server.specs.Batches.{told_of, BatchEnds}
use Rattle.wf_server.proofs.ServedOn.{pauses_on, same_on}
use Rattle.wf_server.proofs.SessionLaws.{next_batch, memory_serves, done_ends, fault_ends}
use Rattle.wf_server.proofs.session.serve_batch.Goals as goal

pub answer_batch-served-requires-clause-takes : goal.answer_batch-served-requires-clause-takes
answer_batch-served-requires-clause-takes g c =
    let d = c.args.desk in
    let first = c.requires.serving.0 in
    let serving = c.requires.serving.1.1 in
    let told = told_of d c.args.told.now in
    record {
      some = c.requires.lanes;
      done = serving.answered.done;
      whole = serving.answered.fills.whole;
      follows = rw c.as_slice.ensures
          (next_batch d.lanes first _ _ told c.next_batch-jobs.result.jobs serving.order serving.read.closed
          (c.next_batch-jobs.ensures.up c.requires.serving.1.0.input (handed_in first told) serving.read).1);
    }

pub returns-in-NoMemory-clause-batch : goal.returns-in-NoMemory-clause-batch
returns-in-NoMemory-clause-batch g c first before serving =
    memory_serves first c.next_batch-jobs.new.self.room before _ _
    c.args.reader.now c.args.desk (told_of c.args.desk c.args.told.now) c.next_batch-jobs.result.paused serving
    (c.next_batch-jobs.ensures.up before.input (handed_in first (told_of c.args.desk c.args.told.now)) serving.read).0 refl
    c.next_batch-jobs.ensures.counts refl

pub returns-in-Ok-clause-batch : goal.returns-in-Ok-clause-batch
returns-in-Ok-clause-batch g c first before serving =
    let d = c.args.desk in
    let e = c.answer_batch-served.result.0 in
    let told = told_of d c.args.told.now in
    let h = handed_in first told in
    let after = streams_of g.S.Source.left g.S.Source.faults g.K.Sink.held g.K.Sink.faults c.next_batch-jobs.new.source c.answer_batch-served.new.sink in
    let t = c.next_batch-jobs.new.self in
    let jobs = c.as_slice.result.now in
    let same = c.as_slice.ensures in
    let how = c.next_batch-jobs.result.paused in
    let answers = rw c.in-Ok.is at c.answer_batch-served.ensures.answers before.output serving.answered in
    let writes = rw c.in-Ok.is at c.answer_batch-served.ensures.counts in
    subst (BatchEnds first before after t e (told_of e c.answer_batch-served.new.told)) (sym c.ending_after.ensures)
    (done_ends first before _ after
    c.args.reader.now t d e told (told_of e c.answer_batch-served.new.told) jobs how serving c.answer_batch-served.ensures.on.setting
    (rw same (c.next_batch-jobs.ensures.reads before.input h serving.read))
    (λ batch. rw same (c.next_batch-jobs.ensures.goes_on batch before.input h serving.read))
    answers.0 answers.1 c.next_batch-jobs.ensures.counts writes)

pub returns-clause-batch : goal.returns-clause-batch
returns-clause-batch g c first before serving =
    let d = c.args.desk in
    let e = c.answer_batch-served.result.0 in
    let told = told_of d c.args.told.now in
    let h = handed_in first told in
    let jobs = c.as_slice.result.now in
    let same = c.as_slice.ensures in
    let how = c.next_batch-jobs.result.paused in
    let answers = rw c.in-Err.is at c.answer_batch-served.ensures.answers before.output serving.answered in
    let ending = rw c.in-Err.is at c.answer_batch-served.ensures.ending in
    let writes = rw c.in-Err.is at c.answer_batch-served.ensures.counts in
    let up = c.next_batch-jobs.ensures.up before.input h serving.read in
    fault_ends first c.next_batch-jobs.new.self.room before _ _
    c.args.reader.now d e told (told_of e c.answer_batch-served.new.told) jobs how c.in-Err.fault serving c.answer_batch-served.ensures.on.setting
    (rw same (c.next_batch-jobs.ensures.reads before.input h serving.read)) c.in_default.not-NoMemory
    (rw same up.1) up.0 answers ending c.next_batch-jobs.ensures.counts writes

pub returns-in-NoMemory-clause-on : goal.returns-in-NoMemory-clause-on
returns-in-NoMemory-clause-on g c = same_on _ c.args.desk

pub returns-in-Ok-clause-goes_on : goal.returns-in-Ok-clause-goes_on
returns-in-Ok-clause-goes_on g c none =
    pauses_on c.next_batch-jobs.result.paused c.args.reader.now c.next_batch-jobs.new.self c.next_batch-jobs.ensures.ready (sym c.ending_after.ensures ∙ none)
