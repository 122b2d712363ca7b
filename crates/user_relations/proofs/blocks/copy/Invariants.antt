use Rattle.std.proofs.Common.{◌≡◌, take}
use Rattle.user_relations.proofs.blocks.copy.Given as goal

abbrev pub invariant-copying : goal.invariant-copying
invariant-copying l = l.copies.items ≡ take l.block-index l.blocks
