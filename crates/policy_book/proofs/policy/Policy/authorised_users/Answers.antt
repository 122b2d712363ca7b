use Rattle.std.proofs.Common.{◌≤◌, ap, sym, subst, ◌∙◌, length, arith}
use Rattle.workflow_schema.specs.Flows.{FlowShape, IsFlow}
use Rattle.policy_book.specs.Policies.{flow_at}
use Rattle.policy_book.proofs.Rows.{none_beyond}
use Rattle.policy_book.proofs.policy.Policy.authorised_users.Goals as goal

pub returns-else-s-len-clause-authorised : goal.returns-else-s-len-clause-authorised
returns-else-s-len-clause-authorised c =
    let flow = (flow_at c.args.self.now c.args.f).flow in
    let kept : IsFlow flow = subst (λ (x : FlowShape). IsFlow x) c.flow.ensures.flow c.steps.ensures.kept in
    let past : length flow.steps ≤ c.args.s =
    omega (
      arith,
      c.if-s-len.false,
      c.len.ensures.count,
      ap length c.steps.ensures.names,
      ap (λ (x : FlowShape). length x.steps) c.flow.ensures.flow,
      c.s.view_is,
    ) in
    λ u. c.empty.ensures.none u ∙ sym (none_beyond c.args.self.now.roster flow c.args.s u kept past)
