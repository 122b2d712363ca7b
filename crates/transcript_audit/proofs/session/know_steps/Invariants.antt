use Rattle.std.proofs.Common.{ℕ, ◌<◌, ◌≤◌, length}
use Rattle.wf_names.specs.declared.limits.TheConstants.{STEP_LIMIT}
use Rattle.policy_book.specs.Policies.{flow_at}
use Rattle.transcript_audit.proofs.session.know_steps.Given as goal

abbrev pub invariant-flows : goal.invariant-flows
invariant-flows l = (g : ℕ) → g < l.f → length (flow_at l.p g).flow.steps ≤ STEP_LIMIT
