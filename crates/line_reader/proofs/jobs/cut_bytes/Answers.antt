use Rattle.std.proofs.Common.{take, arith}
use Rattle.std.proofs.lemmas.List.{length-take-le}
use Rattle.std.proofs.lemmas.Grind.{common_steps}
use Rattle.line_reader.proofs.CutUp.{cut_stopped, cut_rest, cut_to_end}
use Rattle.line_reader.proofs.jobs.cut_bytes.Goals as goal

pub returns-then-is_some : goal.returns-then-is_some
returns-then-is_some c lanes before =
    cut_stopped lanes c.cutting.at c.args.bytes.now c.cutting.whole.jobs c.cutting.whole.ends c.cutting.cutter (c.cutting.invariant.cut lanes before) (cc)

pub cut_some-requires-clause-cut : goal.cut_some-requires-clause-cut
cut_some-requires-clause-cut c = (c.requires.0, (take c.cutting.at c.args.bytes.now, c.cutting.invariant.cut c.requires.0 c.requires.1))

pub cutting-preserved : goal.cutting-preserved
cutting-preserved c = record {
  within = grind (arith, common_steps, c.in_ok-at.ensures.within, length-take-le);
  cut = λ lanes before.
      cut_rest lanes c.cutting.at c.in_ok-at.field-0 c.args.bytes.now c.cut_some.new.whole.jobs c.cut_some.new.whole.ends c.cut_some.new.cutter
      (c.in_ok-at.ensures.cut lanes (take c.cutting.at c.args.bytes.now) (c.cutting.invariant.cut lanes before));
}

pub returns : goal.returns
returns c lanes before =
    cut_to_end lanes c.cutting.at c.args.bytes.now c.cutting.whole.jobs c.cutting.whole.ends c.cutting.cutter (c.cutting.invariant.cut lanes before)
    (omega (arith, c.cutting-test.false))
