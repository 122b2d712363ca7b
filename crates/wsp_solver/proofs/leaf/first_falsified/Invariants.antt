use Rattle.std.proofs.Common.{◌≡◌, ◌<◌, ℕ, false, slice_get}
use Rattle.policy_book.specs.Course.{problem_in}
use Rattle.policy_book.specs.Laws.Refuting.{is_broken}
use Rattle.wsp_solver.proofs.leaf.first_falsified.Given as goal

abbrev pub invariant-rules : goal.invariant-rules
invariant-rules l = (j : ℕ) → j < l.k → is_broken (problem_in l.course) l.a (slice_get (problem_in l.course).rules j) ≡ false
