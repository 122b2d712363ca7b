use Rattle.std.proofs.Common.{◌≤◌, length}
use Rattle.wf_commands.specs.Solve.{TellsFirst}
use Rattle.wf_commands.proofs.solve.solve_flows.Given as goal

abbrev pub invariant-flows : goal.invariant-flows
invariant-flows l = (l.f ≤ length l.p.flows) × TellsFirst l.p l.f l.text.items
