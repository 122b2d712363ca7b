use Rattle.std.proofs.Common.{◌≡◌, ℕ, ◌<◌, ◌≤◌, length}
use Rattle.policy_book.specs.Duties.{set_at, steps_in}
use Rattle.policy_book.proofs.duties.gather_changed.Given as goal

abbrev pub invariant-users : goal.invariant-users
invariant-users l = record {
  count : length l.sets ≡ length l.fn.sets;
  done : (v : ℕ) → v < l.u → set_at l.sets v ≡ steps_in l.rows v;
  left : (v : ℕ) → l.u ≤ v → set_at l.sets v ≡ set_at l.fn.sets v;
}
