use Rattle.std.proofs.Common.{length, subst, ap, ◌∙◌, arith}
use Rattle.policy_book.specs.Policies.{flow_at}
use borrow.Author.Count.{below_more}
use Rattle.wf_names.specs.Table.{AreNames}
use Rattle.entry_reader.proofs.FlowsBack.{all_steps}
use Rattle.entry_reader.proofs.names.know_names.Goals as goal

pub flows-preserved : goal.flows-preserved
flows-preserved c = below_more (λ g. AreNames (flow_at c.args.p.now g).flow.steps) c.flows.f c.flows.invariant c.know_steps.ensures

pub returns : goal.returns
returns c = record {
  users = subst AreNames (c.users.ensures.names ∙ ap (λ r. r.users) c.roster.ensures.roster) c.know.ensures;
  roles = subst AreNames (c.roles.ensures.names ∙ ap (λ r. r.roles) c.roster-2.ensures.roster) c.know-2.ensures;
  flow_names = subst AreNames c.flows-2.ensures.names c.know-3.ensures;
  steps = all_steps c.args.p.now (λ f below. c.flows.invariant f
      (omega (arith, below, c.flows-test.false, c.len-f-end.ensures.count, ap length c.flows-3.ensures.names, c.flows-3.ensures.count)));
}
