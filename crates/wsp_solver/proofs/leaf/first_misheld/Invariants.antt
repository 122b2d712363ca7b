use Rattle.std.proofs.Common.{◌≡◌, ◌<◌, ℕ, false}
use Rattle.refutation_tree.specs.Tree.{holder}
use Rattle.policy_book.specs.Course.{problem_in}
use Rattle.policy_book.specs.Laws.Refuting.{refutes}
use Rattle.wsp_solver.proofs.leaf.first_misheld.Given as goal

abbrev pub invariant-steps : goal.invariant-steps
invariant-steps l = (t : ℕ) → t < l.s → refutes (problem_in l.course) l.a l.done (holder t) ≡ false
