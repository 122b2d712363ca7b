use Rattle.std.proofs.Common.{bit_and}
use Rattle.wf_names.proofs.Mixing.{vector_mixed}
use Rattle.wf_names.proofs.words.meet_lanes.Goals as goal

pub returns : goal.returns
returns c = vector_mixed bit_and c.args.at c.args.into.now c.args.by.now c.requires.lengths c.requires.room
