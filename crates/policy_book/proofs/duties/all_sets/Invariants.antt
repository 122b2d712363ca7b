use Rattle.std.proofs.Common.{◌≡◌, ℕ, ◌<◌, length}
use Rattle.policy_book.specs.Duties.{set_at, steps_in}
use Rattle.policy_book.proofs.duties.all_sets.Given as goal

abbrev pub invariant-users : goal.invariant-users
invariant-users l =
    (length l.sets.items ≡ l.u) × ((v : ℕ) → v < l.u → set_at l.sets.items v ≡ steps_in l.rows v)
