use Rattle.std.proofs.Common.{sym, ap, subst, ◌∙◌}
use Rattle.policy_book.specs.Course.{problem_in}
use Rattle.policy_book.specs.Laws.Refuting.{refutes}
use Rattle.wsp_solver.specs.Searches.{AreMentioned}
use Rattle.wsp_solver.proofs.leaf.refuting_leaf.Goals as goal

pub returns-in-Some-clause-leaf : goal.returns-in-Some-clause-leaf
returns-in-Some-clause-leaf c =
    let p = problem_in c.args.course.now in
    let found = c.held_wrongly.ensures in record {
      refutes = ap (refutes p c.args.a.now c.args.done.now) found.tree ∙ c.in-Some.ensures.1;
      steps = subst (λ t. AreMentioned p.rules t c.held_wrongly.result.steps) (sym found.tree) (found.steps p.rules);
    }
