use Rattle.std.proofs.Common.{arith, sym, None, ◌∙◌}
use Rattle.wf_names.specs.States.{user_of}
use Rattle.case_record.proofs.Changes.{written_more, there_more}
use Rattle.case_record.proofs.steps.assigned.Goals as goal
use Rattle.case_record.proofs.steps.assigned.Goals.{in-Some, in-None}

pub steps-preserved : goal.steps-preserved
steps-preserved c = record {
  len = c.steps.invariant.len;
  none = c.steps.invariant.none;
  written = elim c.match-user.branch [
    | in-Some w ↦
        written_more user_of c.args.cells.now c.empty-users.result _ _ c.steps.s _ c.index-cells-s.result _
        c.steps-test.true c.steps.invariant.len (omega (arith, c.requires)) c.index-cells-s.is (sym w.in-Some.is ∙ c.user.ensures) c.steps.invariant.written
        (w.users-is ∙ w.with-users.ensures.given)
    | in-None w ↦
        there_more user_of c.args.cells.now c.empty-users.result _ _ c.steps.s c.index-cells-s.result None
        c.steps-test.true c.steps.invariant.len c.index-cells-s.is (c.steps.invariant.none c.steps.s ∙ sym w.in-None.is ∙ c.user.ensures)
        c.steps.invariant.written w.users-is
  ];
}
