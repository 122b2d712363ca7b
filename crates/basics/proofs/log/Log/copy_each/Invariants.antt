use Rattle.std.proofs.Common.{◌≡◌, take}
use Rattle.basics.proofs.log.Log.copy_each.Given as goal

-- the entries so far are copied
abbrev pub invariant-entries : goal.invariant-entries
invariant-entries g l = l.items.items ≡ take l.entry-index l.entry-items
