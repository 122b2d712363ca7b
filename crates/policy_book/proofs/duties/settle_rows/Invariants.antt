use Rattle.std.proofs.Common.{◌≡◌, ℕ, ◌<◌, ◌≤◌, ◌==◌, ◌&&◌, [], length, if◌then◌else◌, slice_index_or}
use Rattle.std.specs.FinSet as set
use Rattle.policy_book.specs.Duties.{may_do, row_has}
use Rattle.policy_book.proofs.duties.settle_rows.Given as goal

abbrev pub invariant-steps : goal.invariant-steps
invariant-steps l = record {
  count : length l.rows ≡ length l.fn.rows;
  done : (s v : ℕ) → s < l.s →
      row_has l.rows s v ≡ (if v == l.u && set.contains l.flow.permits (l.r, s) then may_do l.roster l.flow s v else row_has l.fn.rows s v);
  left : (s : ℕ) → l.s ≤ s → slice_index_or l.rows s [] ≡ slice_index_or l.fn.rows s [];
}
