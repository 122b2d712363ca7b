use Rattle.std.proofs.Common.{ℕ, ◌<◌}
use Rattle.policy_book.specs.Policies.{flow_at}
use Rattle.wf_names.specs.Table.{AreNames}
use Rattle.entry_reader.proofs.names.know_names.Given as goal

abbrev pub invariant-flows : goal.invariant-flows
invariant-flows l = (g : ℕ) → g < l.f → AreNames (flow_at l.p g).flow.steps
