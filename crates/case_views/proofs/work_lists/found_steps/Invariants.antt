use Rattle.std.proofs.Common.{◌≡◌, ℕ, ◌<◌, ◌≤◌, false}
use Rattle.std.specs.Prelude.{MatchBool}
use Rattle.constraint_forms.specs.Assign.{is_member}
use Rattle.wf_board.specs.Views.{IsGrantable}
use Rattle.case_views.proofs.work_lists.found_steps.Given as goal

-- of the steps so far the set has those that would be granted, and it has no other step
abbrev pub invariant-finding : goal.invariant-finding
invariant-finding l = record {
  told : (t : ℕ) → t < l.s → MatchBool (is_member l.found t) (IsGrantable l.p l.case t l.u) (¬ IsGrantable l.p l.case t l.u);
  rest : (t : ℕ) → l.s ≤ t → is_member l.found t ≡ false;
}
