use Rattle.std.proofs.Common.{◌≡◌, take}
use Rattle.policy_book.proofs.policy.copies.Given as goal

abbrev pub invariant-flows : goal.invariant-flows
invariant-flows l = l.copies.items ≡ take l.workflow-index l.flows
