use Rattle.std.proofs.Common.{◌≡◌, ℕ, ◌<◌, ◌≤◌, length}
use Rattle.policy_book.specs.Duties.{duties_at}
use Rattle.policy_book.proofs.kept.make_room.Given as goal

abbrev pub invariant-flows : goal.invariant-flows
invariant-flows l = record {
  count : length l.duties ≡ length l.fn.duties;
  rows : (g : ℕ) → (duties_at l.duties g).rows ≡ (duties_at l.fn.duties g).rows;
  users : (g : ℕ) → (duties_at l.fn.duties g).users ≤ (duties_at l.duties g).users;
  room : (g : ℕ) → g < l.f → l.u < (duties_at l.duties g).users;
}
