use Rattle.std.proofs.Common.{◌≤◌, ◌∙◌, subst, sym}
use Rattle.wf_names.specs.declared.limits.TheConstants.{SESSION_LINE_LIMIT}
use Rattle.line_reader.proofs.CutUp.{cut_none, few_lines, few_whole, whole_jobs, whole_ends, whole_lines, whole_stop, in_order, named}
use Rattle.line_reader.proofs.jobs.cut_text.Goals as goal

pub cut_bytes-requires : goal.cut_bytes-requires
cut_bytes-requires c = (
  c.args.lanes,
  cut_none c.args.lanes c.new.result c.new-2.result c.new-cutter.result c.new.ensures c.new-2.ensures c.new-cutter.ensures.start
      c.new-cutter.ensures.sound,
)

pub finish-requires-clause-handed : goal.finish-requires-clause-handed
finish-requires-clause-handed c =
    (c.in_ok-cut_bytes.ensures c.args.lanes
    (cut_none c.args.lanes c.new.result c.new-2.result c.new-cutter.result c.new.ensures c.new-2.ensures c.new-cutter.ensures.start
    c.new-cutter.ensures.sound)).handed

pub finish-requires-clause-sound : goal.finish-requires-clause-sound
finish-requires-clause-sound c =
    (c.in_ok-cut_bytes.ensures c.args.lanes
    (cut_none c.args.lanes c.new.result c.new-2.result c.new-cutter.result c.new.ensures c.new-2.ensures c.new-cutter.ensures.start
    c.new-cutter.ensures.sound)).sound

pub add_batch-requires : goal.add_batch-requires
add_batch-requires c =
    let before = c.in_ok-cut_bytes.ensures c.args.lanes
    (cut_none c.args.lanes c.new.result c.new-2.result c.new-cutter.result c.new.ensures c.new-2.ensures c.new-cutter.ensures.start
    c.new-cutter.ensures.sound) in
    record {
      few = few_whole c.args.lanes c.args.bytes.now c.cut_bytes.new.whole.jobs c.as_slice-2.result.now c.cut_bytes.new.whole.ends c.cut_bytes.new.cutter
          c.finish.new.self
          before c.in_ok-finish.ensures.finished (cc);
    }

pub returns-clause-jobs : goal.returns-clause-jobs
returns-clause-jobs c =
    let before = c.in_ok-cut_bytes.ensures c.args.lanes
    (cut_none c.args.lanes c.new.result c.new-2.result c.new-cutter.result c.new.ensures c.new-2.ensures c.new-cutter.ensures.start
    c.new-cutter.ensures.sound) in
    whole_jobs c.args.lanes c.args.bytes.now c.cut_bytes.new.whole.jobs c.as_slice-2.result.now c.add_batch.new.whole.jobs c.cut_bytes.new.whole.ends
    c.cut_bytes.new.cutter c.finish.new.self
    before c.in_ok-finish.ensures.finished (cc) c.in_ok-add_batch.ensures.jobs

pub returns-clause-ends : goal.returns-clause-ends
returns-clause-ends c =
    let before = c.in_ok-cut_bytes.ensures c.args.lanes
    (cut_none c.args.lanes c.new.result c.new-2.result c.new-cutter.result c.new.ensures c.new-2.ensures c.new-cutter.ensures.start
    c.new-cutter.ensures.sound) in
    whole_ends c.args.lanes c.args.bytes.now c.cut_bytes.new.whole.jobs c.as_slice-2.result.now c.cut_bytes.new.whole.ends c.add_batch.new.whole.ends
    c.cut_bytes.new.cutter c.finish.new.self
    before c.in_ok-finish.ensures.finished c.in_ok-finish.ensures.ended (cc) c.in_ok-add_batch.ensures.ends

pub returns-clause-order : goal.returns-clause-order
returns-clause-order c =
    in_order c.args.lanes c.args.bytes.now c.add_batch.new.whole.jobs c.add_batch.new.whole.ends (returns-clause-jobs c) (returns-clause-ends c)

pub returns-clause-named : goal.returns-clause-named
returns-clause-named c = named c.args.lanes c.args.bytes.now c.add_batch.new.whole.jobs (returns-clause-jobs c)

pub returns-clause-stop : goal.returns-clause-stop
returns-clause-stop c =
    let before = c.in_ok-cut_bytes.ensures c.args.lanes
    (cut_none c.args.lanes c.new.result c.new-2.result c.new-cutter.result c.new.ensures c.new-2.ensures c.new-cutter.ensures.start
    c.new-cutter.ensures.sound) in
    c.stop-stop.ensures
    ∙ whole_stop c.args.lanes c.args.bytes.now c.cut_bytes.new.whole.jobs c.cut_bytes.new.whole.ends c.cut_bytes.new.cutter c.finish.new.self before
    c.in_ok-finish.ensures.finished

pub returns-clause-lines : goal.returns-clause-lines
returns-clause-lines c =
    let before = c.in_ok-cut_bytes.ensures c.args.lanes
    (cut_none c.args.lanes c.new.result c.new-2.result c.new-cutter.result c.new.ensures c.new-2.ensures c.new-cutter.ensures.start
    c.new-cutter.ensures.sound) in
    c.next_number-lines.ensures
    ∙ whole_lines c.args.lanes c.args.bytes.now c.cut_bytes.new.whole.jobs c.cut_bytes.new.whole.ends c.cut_bytes.new.cutter c.finish.new.self before
    c.in_ok-finish.ensures.finished

pub returns-clause-few : goal.returns-clause-few
returns-clause-few c = subst (λ n. n ≤ SESSION_LINE_LIMIT) (sym (returns-clause-lines c)) (few_lines c.args.lanes c.args.bytes.now)
