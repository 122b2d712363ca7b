use Rattle.transcript_commands.proofs.WholeLines.{whole_front}
use Rattle.transcript_commands.proofs.lines.whole_lines.Goals as goal

pub returns : goal.returns
returns c = whole_front c.args.transcript.now c.whole.result c.whole.ensures.within c.whole.ensures.ended c.whole.ensures.last
