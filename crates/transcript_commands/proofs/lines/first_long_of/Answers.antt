use Rattle.std.proofs.Common.{arith, sym, ◌∙◌}
use Rattle.transcript_commands.proofs.LinesTaken.{left_within}
use Rattle.transcript_commands.proofs.LongLines.{long_at, long_on}
use Rattle.transcript_commands.proofs.lines.first_long_of.Goals as goal

pub returns-then-is_long : goal.returns-then-is_long
returns-then-is_long c =
    long_at c.looking.number c.looking.at c.args.text.now _ c.looking-test.true (sym c.is_long.ensures ∙ c.if-is_long.true) c.looking.invariant.goes

pub looking-preserved : goal.looking-preserved
looking-preserved c =
    let some = c.first_len-at.ensures.some in
    let count = c.looking.invariant.count in
    record {
      within = left_within c.args.text.now c.looking.at c.first_len-at.result c.looking.invariant.within c.first_len-at.ensures.within;
      count = omega (arith, some, count);
      goes = long_on c.looking.number c.looking.at c.first_len-at.result c.args.text.now c.looking-test.true
          (sym c.is_long.ensures ∙ c.if-is_long.false) c.first_len-at.ensures.behind ∙ c.looking.invariant.goes;
    }
