use Rattle.policy_reader.proofs.Words.{ap, arith, length, next_flow}
use Rattle.policy_reader.specs.Laws.Grammars.{today}
use Rattle.policy_reader.proofs.Fresh.{left_start, left_new, left_next, left_ascend, left_count}
use Rattle.policy_reader.proofs.Grown.{grown_none, grown_more, printable}
use Rattle.policy_reader.proofs.flows.read_flows.Goals as goal

pub entries-init : goal.entries-init
entries-init c =
    let made = c.into_iter-key-iterator.ensures.into_iter_gives in
    rw made.0 (
      left_start (next_flow today c.args.format) (λ p. p.flow_names) c.args.policy.now c.in_ok-flows.flows.now.entries c.requires.bare.names made.5,
      grown_none _,
    )

pub next_flow-requires-clause-fresh : goal.next_flow-requires-clause-fresh
next_flow-requires-clause-fresh c =
    rw c.as_str.ensures.value (left_new (next_flow today c.args.format) (λ p. p.flow_names) c.into_iter-key-iterator.result _ c.entries.policy
    c.entries.key-iterator (c.in-Some.key.now, c.in-Some.value.now) c.next.new.self c.in-Some.ensures.steps c.entries.invariant.0)

pub entries-preserved : goal.entries-preserved
entries-preserved c = (
  left_next (next_flow today c.args.format) (λ p. p.flow_names) c.into_iter-key-iterator.result _ c.entries.policy c.next_flow.new.policy c.entries.key-iterator
      (c.in-Some.key.now, c.in-Some.value.now) c.next.new.self
      c.in-Some.ensures.steps c.entries.invariant.0 (rw (← c.as_str.ensures.value) c.in_default.ensures.read)
      (rw (← c.as_str.ensures.value) c.in_default.ensures.names),
  grown_more _ _ _ c.entries.invariant.1 c.in_default.ensures.grown,
)

pub returns-clause-printable : goal.returns-clause-printable
returns-clause-printable c =
    let ascend = left_ascend (next_flow today c.args.format) (λ p. p.flow_names) c.into_iter-key-iterator.result _ c.entries.policy c.entries.key-iterator
    c.in-None.ensures.steps.0 c.entries.invariant.0 in
    let count = left_count (next_flow today c.args.format) (λ p. p.flow_names) c.into_iter-key-iterator.result _ c.entries.policy c.entries.key-iterator
    c.in-None.ensures.steps.0 c.entries.invariant.0 in
    printable c.args.policy.now c.entries.policy c.requires.bare.begun c.requires.bare.flows c.entries.invariant.1 ascend
    (omega (arith, count, ap length c.into_iter-key-iterator.ensures.into_iter_gives.0, c.in_ok-flows.ensures.some))
