use Rattle.wf_names.proofs.Mixing.{vector_struck}
use Rattle.wf_names.proofs.words.strike_lanes.Goals as goal

pub returns : goal.returns
returns c = vector_struck c.args.at c.args.into.now c.args.by.now c.requires.lengths c.requires.room
