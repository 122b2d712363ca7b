-- What a search is about, and what it finds.
use Rattle.std.specs.Prelude.{ℕ, List, Option, IsTrue}
use Rattle.policy_book.specs.Course.{problem_in}
use Rattle.policy_book.specs.Laws.Plans.{Problem, AreAssigned, IsValidPlan, IsWithin}
use Rattle.wsp_solver.specs.Crews.{IsCrewOf}
use Rattle.wsp_solver.specs.Searches.{IsRefutation}
use Rattle.wsp_solver.specs.declared.crew.Crew.{Crew}
use Rattle.wsp_solver.specs.declared.search.Searched.{Searched}
use Rattle.wsp_solver.specs.declared.search.Searched.TheVariants.{Plan, Refuted, Stopped}
use Rattle.wsp_solver.specs.declared.task.Task.{Task}

-- the problem of the workflow
abbrev pub asked : Task → Problem
asked task = problem_in task.course.now

-- what is assigned fits the workflow, each finished step is assigned, and what a search knows of
-- each user is right
pub record FitsTask (task : Task) (given : List (Option ℕ)) (known : Crew) : Type 0 where
  pub within : IsWithin (asked task) given
  pub assigned : AreAssigned task.done.now given
  pub crew : IsCrewOf (asked task) known

-- a plan that is valid, or a tree that refutes with the steps that it mentions; or neither, where
-- the search is bounded
abbrev pub HasSearched : Task → List (Option ℕ) → Searched → Type 0
HasSearched task given (Plan plan) = IsValidPlan (asked task) given task.done.now plan
HasSearched task given (Refuted r) = IsRefutation (asked task) given task.done.now r
HasSearched task given Stopped = IsTrue task.bounded
