use Rattle.std.proofs.Common.{subst}
use Rattle.std.proofs.lemmas.Bool.{false≢true}
use Rattle.constraint_forms.specs.Assign.{no_steps, no_users}
use Rattle.policy_book.specs.Course.{problem_in}
use Rattle.rule_core.specs.Laws.Whys.{IsWhy}
use Rattle.tell_run.proofs.planless.can_be_done.Goals as goal
use Rattle.tell_run.proofs.planless.can_be_done.Goals.{in-Plan, in_default}

pub returns : goal.returns
returns c =
    let course = c.args.course.now in
    elim c.match-branch-2.branch [
      | in-Plan w ↦
          rw w.result-is (λ can. (w.in-Plan.field-0, subst (IsWhy (problem_in course) no_users no_steps) w.in-Plan.is c.in_ok-why_at_start.ensures))
      | in_default w ↦ rw w.result-is (λ can. absurd (false≢true can))
    ]
