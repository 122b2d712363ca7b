use Rattle.std.proofs.Common.{◌≡◌, ◌∙◌, ◌<◌, length, slice_index_or, refl, sym, subst, arith}
use Rattle.std.proofs.lemmas.Grind.{common_steps}
use Rattle.wf_desk.specs.Desks.{jobs_told}
use Rattle.transcript_commands.specs.Unserved.{jobs_between}
use Rattle.wf_server.specs.Batches.{told_of, IsBatch}
use Rattle.wf_server.specs.Files.{IsToldTo}
use Rattle.wf_server.proofs.FileLaws.{file_batch, file_fails, is_next, told_more}
use Rattle.wf_server.proofs.ServedOn.{on_then, same_on}
use Rattle.wf_server.proofs.SessionLaws.{lanes_of}
use Rattle.wf_server.proofs.file.answer_file.Goals as goal

pub answering-init : goal.answering-init
answering-init g c = record {
  told = c.requires.file.to;
  on = same_on _ c.args.desk;
  answered = λ held answered. answered;
  faults = refl;
}

pub jobs_between-batch-requires-clause-order : goal.jobs_between-batch-requires-clause-order
jobs_between-batch-requires-clause-order g c =
    let next = is_next c.args.desk c.answering.desk _ _ _ _ _ c.answering.invariant.on.setting c.requires.file.order c.answering-test.true c.len.ensures
    c.answering.invariant.told in
    let above = next.order in
    grind (arith, common_steps)

pub jobs_between-batch-requires-clause-within : goal.jobs_between-batch-requires-clause-within
jobs_between-batch-requires-clause-within g c =
    let next = is_next c.args.desk c.answering.desk _ _ _ _ _ c.answering.invariant.on.setting c.requires.file.order c.answering-test.true c.len.ensures
    c.answering.invariant.told in
    let within = next.within in
    grind (arith, common_steps)

pub answer_batch-next-requires-clause-takes : goal.answer_batch-next-requires-clause-takes
answer_batch-next-requires-clause-takes g c =
    let is = c.answering.invariant.told in
    let d = c.answering.desk in
    let jobs = c.args.file.now.jobs in
    let ends = c.args.file.now.ends in
    let next = is_next c.args.desk d _ _ _ _ _ c.answering.invariant.on.setting c.requires.file.order c.answering-test.true c.len.ensures
    c.answering.invariant.told in
    let batch : c.jobs_between-batch.result.now ≡ jobs_between (length (jobs_told c.answering.desk)) (slice_index_or ends c.answering.count 0) jobs =
    grind (arith, common_steps) in
    let answered = c.answering.invariant.answered c.requires.answered.0 c.requires.answered.1 in
    record {
      some = subst (λ n. 0 < n) (sym (lanes_of c.args.desk d c.answering.invariant.on.setting)) c.requires.lanes;
      done = answered.done;
      whole = answered.fills.whole;
      follows =
          subst (λ js. IsBatch d.lanes (length (jobs_told c.answering.desk)) js) (sym batch)
          (file_batch d.lanes jobs ends c.answering.count _ _ next);
    }

pub answering-preserved : goal.answering-preserved
answering-preserved g c =
    let is = c.answering.invariant.told in
    let d = c.answering.desk in
    let jobs = c.args.file.now.jobs in
    let ends = c.args.file.now.ends in
    let next = is_next c.args.desk d _ _ _ _ _ c.answering.invariant.on.setting c.requires.file.order c.answering-test.true c.len.ensures
    c.answering.invariant.told in
    let batch : c.jobs_between-batch.result.now ≡ jobs_between (length (jobs_told c.answering.desk)) (slice_index_or ends c.answering.count 0) jobs =
    grind (arith, common_steps) in
    let e = c.answer_batch-next.result.0 in
    let added = (rw c.in-Ok.is at c.answer_batch-next.ensures.answers c.requires.answered.0
    (c.answering.invariant.answered c.requires.answered.0 c.requires.answered.1)).0 in
    record {
      told = told_more d.lanes jobs ends c.answering.count (told_of d c.answering.told) (told_of e c.answer_batch-next.new.told)
          c.jobs_between-batch.result.now _ _ is next refl batch added;
      on = on_then _ c.args.desk d e c.answering.invariant.on c.answer_batch-next.ensures.on;
      answered = λ held answered. (rw c.in-Ok.is at c.answer_batch-next.ensures.answers held (c.answering.invariant.answered held answered)).1;
      faults = (rw c.in-Ok.is at c.answer_batch-next.ensures.counts) ∙ c.answering.invariant.faults;
    }

pub returns-in-Err-clause-on : goal.returns-in-Err-clause-on
returns-in-Err-clause-on g c =
    on_then _ c.args.desk c.answering.desk c.answer_batch-next.result.0 c.answering.invariant.on c.answer_batch-next.ensures.on

pub returns-in-Err-clause-answers : goal.returns-in-Err-clause-answers
returns-in-Err-clause-answers g c held answered =
    let is = c.answering.invariant.told in
    let d = c.answering.desk in
    let jobs = c.args.file.now.jobs in
    let ends = c.args.file.now.ends in
    let next = is_next c.args.desk d _ _ _ _ _ c.answering.invariant.on.setting c.requires.file.order c.answering-test.true c.len.ensures
    c.answering.invariant.told in
    let batch : c.jobs_between-batch.result.now ≡ jobs_between (length (jobs_told c.answering.desk)) (slice_index_or ends c.answering.count 0) jobs =
    grind (arith, common_steps) in
    file_fails d.lanes jobs ends c.answering.count held (g.K.Sink.held c.answer_batch-next.new.sink) (told_of d c.answering.told)
    (told_of c.answer_batch-next.result.0 c.answer_batch-next.new.told)
    c.answer_batch-next.result.0 c.jobs_between-batch.result.now _ _ c.in-Err.fault is next refl batch
    (rw c.in-Err.is at c.answer_batch-next.ensures.answers held (c.answering.invariant.answered held answered))
    (rw c.in-Err.is at c.answer_batch-next.ensures.ending)

pub returns-clause-answers : goal.returns-clause-answers
returns-clause-answers g c held answered =
    let ends = c.args.file.now.ends in
    let known = c.answering.invariant.told.known in
    let last : c.answering.count ≡ length ends = grind (arith, common_steps) in (
      subst (λ n. IsToldTo c.args.file.now.jobs ends n (told_of c.answering.desk c.answering.told)) last c.answering.invariant.told,
      c.answering.invariant.answered held answered,
    )
