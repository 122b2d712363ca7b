use Rattle.std.proofs.Common.{◌==◌, ap}
use Rattle.user_relations.proofs.RowSets.{none_counted}
use Rattle.user_relations.proofs.user_pairs.UserPairs.is_empty.Goals as goal

pub returns : goal.returns
returns c = none_counted c.args.self.now _ (ap (λ n. n == 0) c.len.ensures)
