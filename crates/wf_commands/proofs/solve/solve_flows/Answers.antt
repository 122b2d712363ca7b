use Rattle.std.proofs.Common.{length, ap, arith}
use Rattle.wf_commands.proofs.Solving.{tells_next}
use Rattle.wf_commands.proofs.solve.solve_flows.Goals as goal

pub flows-preserved : goal.flows-preserved
flows-preserved c =
    let told = tells_next c.args.p.now c.flows.f c.flows.text.items c.push_solved.new.out.items c.flows.invariant.1 c.in_ok-push_solved.ensures in
    (omega (arith, c.flows-test.true, c.len-f-end.ensures.count, c.flows-2.ensures.count, ap length c.flows-2.ensures.names), told)
