use Rattle.std.proofs.Common.{◌≡◌, ◌<◌, ◌≤◌, ◌-◌, ℕ, [], false}
use Rattle.policy_book.specs.Course.{problem_in}
use Rattle.policy_book.specs.Laws.Twins.{are_twins}
use Rattle.wsp_solver.proofs.crew.find_twin.Given as goal

abbrev pub invariant-earlier : goal.invariant-earlier
invariant-earlier l = record {
  within : l.from ≤ l.end;
  none : (w : ℕ) → 0 ≤ w → w < l.from → are_twins (problem_in l.course) [] w l.u ≡ false;
}

abbrev pub decreases-earlier : goal.decreases-earlier
decreases-earlier l = l.end - l.from
