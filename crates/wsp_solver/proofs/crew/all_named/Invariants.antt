use Rattle.std.proofs.Common.{◌≡◌, ◌<◌, ℕ, length}
use Rattle.refutation_tree.specs.Tree.{rule}
use Rattle.std.specs.Prelude.{slice_index_or}
use Rattle.constraint_forms.specs.Assign.{no_steps}
use Rattle.policy_book.specs.Course.{problem_in}
use Rattle.wsp_solver.specs.Searches.{AreMentioned}
use Rattle.wsp_solver.proofs.crew.all_named.Given as goal

abbrev pub invariant-rules : goal.invariant-rules
invariant-rules l =
    (length l.named.items ≡ l.k) × ((j : ℕ) → j < l.k → AreMentioned (problem_in l.course).rules (rule j) (slice_index_or l.named.items j no_steps))
