use Rattle.std.proofs.Common.{sym, subst}
use Rattle.policy_book.specs.Course.{problem_in}
use Rattle.wsp_solver.specs.Crews.{IsFirstTwin}
use Rattle.wsp_solver.proofs.Crews.{one_more_known}
use Rattle.wsp_solver.proofs.crew.know_class.Goals as goal

pub returns-then-is_none : goal.returns-then-is_none
returns-then-is_none c =
    let p = problem_in c.args.course.now in
    let class = c.find_twin-class.result in record {
      few = c.requires.crew.few;
      duties = c.requires.crew.duties;
      classes = one_more_known p c.args.crew.now.classes.items c.u.inside.0 class c.requires.crew.classes
          (subst (λ x. IsFirstTwin p x class) (sym c.u.view_is) c.find_twin-class.ensures);
      named = c.requires.crew.named;
    }
