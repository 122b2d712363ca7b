use Rattle.std.proofs.Common.{arith}
use Rattle.grant_table.proofs.Passed.{all_passed, one_passed}
use Rattle.grant_table.proofs.rows.past_ended.Goals as goal

pub passing-preserved : goal.passing-preserved
passing-preserved c = grind (arith, one_passed)

pub returns : goal.returns
returns c = all_passed c.args.rows.now c.passing.i (omega (arith, c.passing-test.false)) c.passing.invariant
