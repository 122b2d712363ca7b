use Rattle.std.proofs.Common.{arith}
use Rattle.transcript_commands.proofs.LongLines.{whole_short}
use Rattle.std.proofs.Common.{length, ap}
use Rattle.transcript_commands.proofs.lines.first_long.Goals as goal

pub first_long_of-requires : goal.first_long_of-requires
first_long_of-requires c =
    let short = whole_short c.args.transcript.now in
    let same = ap length c.whole_lines.ensures in
    let few = c.requires in
    omega (arith, short, same, few)
