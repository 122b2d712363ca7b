-- A workflow with its policy.
use Rattle.policy_book.specs.Laws.Plans.{Problem}
use Rattle.policy_book.specs.Policies.{problem_of}
use Rattle.policy_book.specs.declared.course.Course.{Course}

-- all that a policy says of the workflow
abbrev pub problem_in : Course → Problem
problem_in c = problem_of c.policy.now c.number
