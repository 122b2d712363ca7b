use Rattle.std.proofs.Common.{Bool, List, Option, IfOk, subst, ℕ}
use Rattle.constraint_forms.specs.Assign.{no_steps}
use Rattle.policy_book.specs.Course.{problem_in}
use Rattle.rule_core.specs.Laws.Whys.{IsWhy}
use Rattle.rule_core.proofs.search.why_at_start.Goals as goal

pub returns : goal.returns
returns c =
    let p = problem_in c.args.course.now in
    subst (λ (users : List (Option ℕ)). IfOk c.why_of.result (IsWhy p users no_steps)) c.empty-users.ensures.value
    (subst (λ (done : List Bool). IfOk c.why_of.result (IsWhy p c.empty-users.result done)) c.empty-done.ensures.value c.why_of.ensures)
