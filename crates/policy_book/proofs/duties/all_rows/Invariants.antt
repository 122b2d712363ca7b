use Rattle.std.proofs.Common.{◌≡◌, ℕ, ◌<◌, length}
use Rattle.policy_book.specs.Duties.{may_do, row_has}
use Rattle.policy_book.proofs.duties.all_rows.Given as goal

abbrev pub invariant-steps : goal.invariant-steps
invariant-steps l =
    (length l.rows.items ≡ l.s) × ((s u : ℕ) → s < l.s → row_has l.rows.items s u ≡ may_do l.roster l.flow s u)
