use Rattle.std.proofs.Common.{arith}
use Rattle.basics.proofs.Booleans.{lt_no}
use Rattle.workflow_schema.proofs.Words.{is_set-tested, is_set-past}
use Rattle.workflow_schema.proofs.table.has_bit.Goals as goal

pub returns-then-bit-lt-WORD_BITS : goal.returns-then-bit-lt-WORD_BITS
returns-then-bit-lt-WORD_BITS c = is_set-tested c.args.word c.args.bit c.if-bit-lt-WORD_BITS.true

pub returns-else-bit-lt-WORD_BITS : goal.returns-else-bit-lt-WORD_BITS
returns-else-bit-lt-WORD_BITS c = grind (arith, lt_no, is_set-past)
