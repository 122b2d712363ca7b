use Rattle.std.proofs.Common.{◌≡◌, ℕ, ◌<◌, IsTrue, drop}
use Rattle.workflow_schema.specs.Flows.{Precedes}
use Rattle.wf_names.specs.States.{is_finished}
use Rattle.case_record.specs.Cases.{state_at}
use Rattle.case_record.specs.Order.{first_missing, first_missing_from}
use Rattle.case_record.proofs.order.first_unfinished.Given as goal

abbrev pub invariant-steps : goal.invariant-steps
invariant-steps l = record {
  left : first_missing_from l.f.order l.s l.t (drop l.t l.c.states) ≡ first_missing l.c l.f.order l.s;
  passed : (r : ℕ) → r < l.t → Precedes l.f.order r l.s → IsTrue (is_finished (state_at l.c r));
}
