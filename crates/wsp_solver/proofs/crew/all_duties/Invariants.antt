use Rattle.std.proofs.Common.{◌≡◌, ◌<◌, ℕ, length}
use Rattle.policy_book.specs.Course.{problem_in}
use Rattle.wsp_solver.specs.Crews.{duties_below, duties_of}
use Rattle.wsp_solver.proofs.crew.all_duties.Given as goal

abbrev pub invariant-users : goal.invariant-users
invariant-users l =
    (length l.rows.items ≡ l.u) × ((v : ℕ) → v < l.u → duties_of l.rows.items v ≡ duties_below (problem_in l.course) v (problem_in l.course).steps)
