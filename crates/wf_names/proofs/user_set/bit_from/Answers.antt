use Rattle.std.proofs.Common.{arith}
use Rattle.wf_names.proofs.NextUsers.{no_bits, lowest_bit}
use Rattle.wf_names.proofs.user_set.bit_from.Goals as goal

pub returns-then-rest-eq0 : goal.returns-then-rest-eq0
returns-then-rest-eq0 c = no_bits c.args.word c.args.from (omega (arith, c.if-rest-eq0.true))

pub returns-else-rest-eq0 : goal.returns-else-rest-eq0
returns-else-rest-eq0 c = lowest_bit c.args.word c.args.from (c.ranges.word.fits) (omega (arith, c.if-rest-eq0.false))
