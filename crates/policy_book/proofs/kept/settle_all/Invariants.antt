use Rattle.std.proofs.Common.{◌≡◌, ℕ, ◌<◌, ◌≤◌, length, slice_index_or}
use Rattle.policy_book.specs.Policies.{no_workflow}
use Rattle.policy_book.specs.Duties.{IsSettled, duties_at}
use Rattle.policy_book.proofs.kept.settle_all.Given as goal

abbrev pub invariant-flows : goal.invariant-flows
invariant-flows l = record {
  count : length l.duties ≡ length l.fn.duties;
  users : (g : ℕ) → (duties_at l.duties g).users ≡ (duties_at l.fn.duties g).users;
  done : (g : ℕ) → g < l.f → IsSettled l.roster (slice_index_or l.flows g no_workflow).flow l.u l.r (duties_at l.fn.duties g).rows (duties_at l.duties g).rows;
  left : (g : ℕ) → l.f ≤ g → duties_at l.duties g ≡ duties_at l.fn.duties g;
}
