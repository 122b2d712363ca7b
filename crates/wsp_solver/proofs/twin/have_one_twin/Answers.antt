use Rattle.std.proofs.Common.{◌∙◌}
use Rattle.policy_book.specs.Course.{problem_in}
use Rattle.wsp_solver.proofs.Crews.{one_first_twin}
use Rattle.wsp_solver.proofs.twin.have_one_twin.Goals as goal

pub returns : goal.returns
returns c =
    c.eq.ensures
    ∙ one_first_twin (problem_in c.args.course.now) c.args.u c.args.v c.first_twin.result c.first_twin-2.result c.requires.user c.requires.first
    c.first_twin.ensures c.first_twin-2.ensures
