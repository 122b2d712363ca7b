use Rattle.policy_reader.proofs.Prints.{◌∙◌, sym, ap, length, arith, flow_at, needs_second}
use Rattle.policy_book.proofs.Counting.{any_below-at}
use Rattle.policy_reader.proofs.written.some_flow_needs_second.Goals as goal

pub returns-then-needs_second : goal.returns-then-needs_second
returns-then-needs_second c =
    sym (any_below-at (length c.args.policy.now.flows) c.flows.f (λ f. needs_second (flow_at c.args.policy.now f).rules)
    (omega (arith, c.flows-test.true, c.len-f-end.ensures.count, ap length c.flows-2.ensures.names, c.flows-2.ensures.count))
    (sym (ap needs_second c.rules.ensures.rules) ∙ sym c.needs_second.ensures ∙ c.if-needs_second.true))
