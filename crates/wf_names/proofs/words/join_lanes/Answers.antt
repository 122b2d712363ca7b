use Rattle.std.proofs.Common.{bit_or}
use Rattle.wf_names.proofs.Mixing.{vector_mixed}
use Rattle.wf_names.proofs.words.join_lanes.Goals as goal

pub returns : goal.returns
returns c = vector_mixed bit_or c.args.at c.args.into.now c.args.by.now c.requires.lengths c.requires.room
