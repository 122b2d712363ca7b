-- What is said of how far a case has come.
use Rattle.std.specs.Prelude.{ℕ, Bool, List, Option}
use Rattle.policy_book.specs.Course.{problem_in}
use Rattle.policy_book.specs.Laws.Plans.{Problem}
use Rattle.rule_core.specs.declared.progress.Progress.{Progress}

-- what is said of a workflow, an assignment and finished steps, of these of a case
abbrev pub in_case : {X : Type 1} → (Problem → List (Option ℕ) → List Bool → X) → Progress → X
in_case said c = said (problem_in c.course.now) c.users.now c.done.now
