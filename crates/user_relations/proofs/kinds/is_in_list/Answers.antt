use Rattle.std.proofs.Common.{true}
use Rattle.user_relations.proofs.RowSets.{none_told}
use Rattle.user_relations.proofs.Numbered.{unlisted}
use Rattle.user_relations.proofs.kinds.is_in_list.Goals as goal

pub returns-in-None : goal.returns-in-None
returns-in-None c = none_told _ true (c.args.u, c.args.v) (unlisted _ c.in-None.ensures)
