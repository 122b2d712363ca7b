use Rattle.std.proofs.Common.{◌≡◌, ℕ, ◌++◌, length, map, take, drop, None}
use Rattle.constraint_forms.specs.Assign.{user_at}
use Rattle.wf_names.specs.States.{user_of}
use Rattle.case_record.proofs.steps.assigned.Given as goal

abbrev pub invariant-steps : goal.invariant-steps
invariant-steps l = record {
  len : length l.initial.users ≡ length l.cells;
  none : (s : ℕ) → user_at l.initial.users s ≡ None;
  written : l.users ≡ map user_of (take l.s l.cells) ++ drop l.s l.initial.users;
}
