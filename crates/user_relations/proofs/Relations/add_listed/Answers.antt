use Rattle.std.proofs.Common.{arith}
use Rattle.std.specs.FinSet as set
use Rattle.basics.specs.Laws.Pairs.{pair_cmp}
use Rattle.basics.specs.PairLaws.{all_empty}
use Rattle.user_relations.proofs.Relations.add_listed.Goals as goal

pub add_pairs-requires-clause-few : goal.add_pairs-requires-clause-few
add_pairs-requires-clause-few c = rw (c.in-Ok.ensures, set.len-empty pair_cmp) (omega arith)

pub add_pairs-requires-clause-users : goal.add_pairs-requires-clause-users
add_pairs-requires-clause-users c = rw c.in-Ok.ensures (all_empty _)
