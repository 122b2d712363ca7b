use Rattle.std.proofs.Common.{◌≡◌, replicate}
use Rattle.user_relations.proofs.blocks.repeat.Given as goal

abbrev pub invariant-shares : goal.invariant-shares
invariant-shares l = l.blocks.items ≡ replicate l.counter l.block
