use Rattle.std.proofs.Common.{IfOk, List, Bool, Option, ℕ, subst}
use Rattle.constraint_forms.specs.Assign.{no_steps, no_users}
use Rattle.policy_book.specs.Policies.{problem_of}
use Rattle.policy_book.specs.Laws.Shapes.{PolicyShape}
use Rattle.wsp_solver.specs.Searches.{HasSolved}
use Rattle.resilience_check.proofs.finding.solve_without.Goals as goal

pub returns : goal.returns
returns c =
    let f = c.args.course.now.number in
    subst (λ (q : PolicyShape). IfOk c.solve.result (HasSolved (problem_of q f) no_users no_steps)) c.in_ok-left.ensures
    (subst (λ (a : List (Option ℕ)). IfOk c.solve.result (HasSolved (problem_of c.in_ok-left.left f) a no_steps)) c.empty.ensures.value
    (subst (λ (d : List Bool). IfOk c.solve.result (HasSolved (problem_of c.in_ok-left.left f) c.empty.result d)) c.empty-2.ensures.value c.solve.ensures))
