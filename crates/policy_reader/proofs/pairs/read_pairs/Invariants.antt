use Rattle.std.specs.FinSet as set
use Rattle.policy_reader.proofs.Words.{◌≡◌, ◌≤◌, drop, length, items_view, each, AreBelow, items, next_pair}
use Rattle.policy_reader.proofs.pairs.read_pairs.Given as goal

abbrev pub invariant-items : goal.invariant-items
invariant-items g l =
    (each (next_pair l.part l.index l.names.names) (g.P.PairSet.held l.pairs) (items (items_view (drop l.value-index l.items))) ≡ each
    (next_pair l.part l.index l.names.names) set.empty (items (items_view l.items)))
    × AreBelow (length l.names.names) (g.P.PairSet.held l.pairs)
    × (set.len (g.P.PairSet.held l.pairs) ≤ l.value-index)
