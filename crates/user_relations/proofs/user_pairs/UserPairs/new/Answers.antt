use Rattle.std.proofs.Common.{arith}
use Rattle.user_relations.proofs.RowSets.{rows_none, pairs_none}
use Rattle.user_relations.proofs.user_pairs.UserPairs.new.Goals as goal

pub invariant_of-result : goal.invariant_of-result
invariant_of-result c = grind (arith, rows_none)

pub returns : goal.returns
returns c = pairs_none c.in_ok-ahead.ahead.items c.in_ok-ahead.ensures.none
