use Rattle.std.proofs.Common.{◌≡◌, [], false, take}
use Rattle.policy_book.specs.Course.{problem_in}
use Rattle.policy_book.specs.Laws.Twins.{has_twin}
use Rattle.certificate_check.specs.Walks.{tree_users}
use Rattle.wsp_solver.proofs.twin.twin_among.Given as goal

abbrev pub invariant-branches : goal.invariant-branches
invariant-branches l = has_twin (problem_in l.course) l.a l.u (tree_users [] (take l.branch-index l.items)) ≡ false
