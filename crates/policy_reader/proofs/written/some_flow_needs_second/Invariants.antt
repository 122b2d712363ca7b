use Rattle.policy_reader.proofs.Prints.{◌≡◌, false, any_below, flow_at, needs_second}
use Rattle.policy_reader.proofs.written.some_flow_needs_second.Given as goal

abbrev pub invariant-flows : goal.invariant-flows
invariant-flows l = any_below l.f (λ f. needs_second (flow_at l.policy f).rules) ≡ false
