use Rattle.std.proofs.Common.{arith, sym, false, ◌∙◌}
use Rattle.wf_names.specs.States.{is_finished}
use Rattle.case_record.proofs.Changes.{written_more, there_more}
use Rattle.case_record.proofs.steps.finished.Goals as goal
use Rattle.case_record.proofs.steps.finished.Goals.{then-is_finished, else-is_finished}

pub steps-preserved : goal.steps-preserved
steps-preserved c = record {
  len = c.steps.invariant.len;
  none = c.steps.invariant.none;
  written = elim c.if-is_finished.branch [
    | then-is_finished w ↦
        written_more is_finished c.args.cells.now c.empty-done.result _ _ c.steps.s _ c.index-cells-s.result _
        c.steps-test.true c.steps.invariant.len (omega (arith, c.requires)) c.index-cells-s.is (sym w.if-is_finished.true ∙ c.is_finished.ensures)
        c.steps.invariant.written (w.done-is ∙ w.with-done.ensures.value)
    | else-is_finished w ↦
        there_more is_finished c.args.cells.now c.empty-done.result _ _ c.steps.s c.index-cells-s.result false
        c.steps-test.true c.steps.invariant.len c.index-cells-s.is (c.steps.invariant.none c.steps.s ∙ sym w.if-is_finished.false ∙ c.is_finished.ensures)
        c.steps.invariant.written w.done-is
  ];
}
