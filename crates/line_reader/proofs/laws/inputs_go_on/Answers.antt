use Rattle.line_reader.proofs.Order.{inputs_go_on}
use Rattle.line_reader.proofs.laws.inputs_go_on.Goals as goal

pub returns : goal.returns
returns c = inputs_go_on c.args.lanes c.requires
