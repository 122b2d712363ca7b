use Rattle.std.proofs.Common.{◌≡◌, ℕ, List, Bool, Option, Err, sym, refl, subst}
use Rattle.constraint_forms.specs.Assign.{no_steps}
use Rattle.policy_book.specs.Laws.Plans.{IsValidPlan}
use Rattle.policy_book.specs.Course.{problem_in}
use Rattle.certificate_check.specs.Plan.{plan_verdict}
use Rattle.wf_commands.proofs.plan.judge_plan.Goals as goal

pub returns-in_ok-from_str-in-Ok : goal.returns-in_ok-from_str-in-Ok
returns-in_ok-from_str-in-Ok c =
    let valid = c.in-Ok.ensures.valid.0 refl in (
      subst (λ (a : List (Option ℕ)). IsValidPlan (problem_in c.args.course.now) a no_steps c.args.plan.now) c.empty.ensures.value
          (subst (λ (d : List Bool). IsValidPlan (problem_in c.args.course.now) c.empty.result d c.args.plan.now) c.empty-2.ensures.value valid),
      (let text = c.in_ok-from_str-in-Ok.ensures.ok in let bytes = c.into_bytes.ensures in cc),
    )

pub returns-in_ok-fault_text-in-Err : goal.returns-in_ok-fault_text-in-Err
returns-in_ok-fault_text-in-Err c =
    let e = sym c.in-Err.ensures.fault in (
      c.in-Err.fault,
      subst (λ (a : List (Option ℕ)). plan_verdict (problem_in c.args.course.now) a no_steps c.args.plan.now ≡ Err c.in-Err.fault) c.empty.ensures.value
          (subst (λ (d : List Bool). plan_verdict (problem_in c.args.course.now) c.empty.result d c.args.plan.now ≡ Err c.in-Err.fault)
          c.empty-2.ensures.value e),
      (let text = c.in_ok-fault_text-in-Err.ensures in let bytes = c.into_bytes-in-Err.ensures in cc),
    )
