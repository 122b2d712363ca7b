use Rattle.std.proofs.Common.{◌≡◌, take}
use Rattle.user_relations.specs.View.{shapes}
use Rattle.user_relations.proofs.kinds.push_copies.Given as goal

abbrev pub invariant-copying : goal.invariant-copying
invariant-copying l = shapes l.copies.items ≡ shapes (take l.relation-index l.declared)
