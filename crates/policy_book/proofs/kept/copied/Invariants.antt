use Rattle.std.proofs.Common.{◌≡◌, take}
use Rattle.policy_book.proofs.kept.copied.Given as goal

abbrev pub invariant-flows : goal.invariant-flows
invariant-flows l = l.copies.items ≡ take l.own-index l.duties
