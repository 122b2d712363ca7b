use Rattle.policy_book.specs.Policies.{problem_of}
use Rattle.wsp_solver.specs.Crews.{IsCrewOf}
use Rattle.wsp_solver.proofs.lean.trim.Given as goal

abbrev pub invariant-users : goal.invariant-users
invariant-users l = IsCrewOf (problem_of l.p l.fn.f) l.crew
