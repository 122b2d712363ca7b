use Rattle.wsp_solver.specs.Crews.{IsCrewOf}
use Rattle.wsp_solver.specs.Task.{asked}
use Rattle.wsp_solver.proofs.search.search.Given as goal

abbrev pub invariant-runs : goal.invariant-runs
invariant-runs l = IsCrewOf (asked l.task) l.crew
