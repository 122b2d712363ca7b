use Rattle.std.proofs.Common.{length, ap, ◌≤◌, arith}
use Rattle.wf_names.specs.declared.limits.TheConstants.{STEP_LIMIT}
use Rattle.policy_book.specs.Policies.{flow_at}
use borrow.Author.Count.{below_more}
use Rattle.transcript_audit.proofs.session.know_steps.Goals as goal

pub flows-preserved : goal.flows-preserved
flows-preserved c = below_more (λ g. length (flow_at c.args.p.now g).flow.steps ≤ STEP_LIMIT) c.flows.f c.flows.invariant c.know_few.ensures

pub returns : goal.returns
returns c f below =
    c.flows.invariant f (omega (arith, below, c.flows-test.false, c.len-f-end.ensures.count, ap length c.flows-2.ensures.names, c.flows-2.ensures.count))
