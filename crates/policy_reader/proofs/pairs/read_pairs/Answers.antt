use Rattle.std.specs.FinSet as set
use Rattle.policy_reader.proofs.Words.{refl, arith, pair_cmp, all_empty, next_pair}
use Rattle.policy_reader.proofs.Loops.{each_more}
use Rattle.policy_reader.proofs.pairs.read_pairs.Goals as goal

pub items-init : goal.items-init
items-init g c = rw c.requires.none (refl, all_empty _, rw (set.len-empty pair_cmp) (omega arith))

pub items-preserved : goal.items-preserved
items-preserved g c = (
  each_more (next_pair c.args.part c.args.index c.args.names.now.names) (g.P.PairSet.held c.items.pairs) (g.P.PairSet.held c.next_pair.new.pairs) _
      c.args.items.now c.items.value-index c.value-item.result c.items-test.true c.value-item.is c.items.invariant.0 c.in_default.ensures.read,
  c.in_default.ensures.within,
  omega (arith, c.in_default.ensures.len, c.items.invariant.2),
)
