use Rattle.std.proofs.Common.{◌≡◌, ℕ, ◌++◌, length, map, take, drop, false}
use Rattle.constraint_forms.specs.Assign.{is_member}
use Rattle.wf_names.specs.States.{is_finished}
use Rattle.case_record.proofs.steps.finished.Given as goal

abbrev pub invariant-steps : goal.invariant-steps
invariant-steps l = record {
  len : length l.initial.done ≡ length l.cells;
  none : (s : ℕ) → is_member l.initial.done s ≡ false;
  written : l.done ≡ map is_finished (take l.s l.cells) ++ drop l.s l.initial.done;
}
