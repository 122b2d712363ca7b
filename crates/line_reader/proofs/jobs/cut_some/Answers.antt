use Rattle.std.proofs.Common.{take, ◌++◌}
use Rattle.line_reader.proofs.CutUp.{cut_more, cut_further, cut_batch, few_cut}
use Rattle.line_reader.proofs.jobs.cut_some.Goals as goal

pub add_batch-requires : goal.add_batch-requires
add_batch-requires c =
    let lanes = c.requires.cut.0 in
    let seen = c.requires.cut.1.0 in
    let more = take c.in_ok-count.count c.args.left.now in
    let cut = cut_further lanes seen more c.args.whole.now.jobs c.args.whole.now.ends c.args.cutter.now c.feed.new.self c.requires.cut.1.1
    c.in_ok-count.ensures.cuts in
    record { few = few_cut lanes (seen ++ more) c.args.whole.now.jobs c.as_slice-then-has_batch.result.now c.args.whole.now.ends c.feed.new.self cut (cc) }

pub returns-in_ok-add_batch-clause-cut : goal.returns-in_ok-add_batch-clause-cut
returns-in_ok-add_batch-clause-cut c lanes seen before =
    cut_batch lanes seen (take c.in_ok-count.count c.args.left.now) c.args.whole.now.jobs c.add_batch.new.whole.jobs c.args.whole.now.ends
    c.add_batch.new.whole.ends
    c.args.cutter.now c.feed.new.self c.take_batch.new.self c.as_slice-then-has_batch.result.now before c.in_ok-count.ensures.cuts c.in_ok-count.ensures.sound
    (c.in_ok-count.ensures.on.ended c.if-has_batch.ensures) (cc) c.take_batch.ensures.left c.in_ok-add_batch.ensures.jobs c.in_ok-add_batch.ensures.ends

pub returns-else-has_batch-clause-cut : goal.returns-else-has_batch-clause-cut
returns-else-has_batch-clause-cut c lanes seen before =
    cut_more lanes seen (take c.in_ok-count.count c.args.left.now) c.args.whole.now.jobs c.args.whole.now.ends c.args.cutter.now c.feed.new.self before
    c.in_ok-count.ensures.cuts c.in_ok-count.ensures.sound c.if-has_batch.ensures
