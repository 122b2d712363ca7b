use Rattle.std.proofs.Common.{subst}
use Rattle.constraint_forms.specs.Assign.{no_steps, no_users}
use Rattle.resilience_check.specs.Left.{problem_without}
use Rattle.wsp_solver.specs.Searches.{HasSolved}
use Rattle.wsp_solver.specs.declared.search.Outcome.{Outcome}
use Rattle.resilience_check.proofs.Families.{grown_by, stays_grown}
use Rattle.resilience_check.proofs.finding.try_absence.Goals as goal

pub returns-in_ok-push-in-Plan : goal.returns-in_ok-push-in-Plan
returns-in_ok-push-in-Plan c =
    let p = c.args.course.now.policy.now in
    let f = c.args.course.now.number in
    let problem = problem_without p f c.args.absent.now in
    let valid = subst (λ (o : Outcome). HasSolved problem no_users no_steps o) c.in-Plan.is c.in_ok-plan.ensures in
    grown_by p f c.args.absent.now c.args.family.now c.push.new.self c.in-Plan.plan c.requires.family c.in_ok-push-in-Plan.ensures.pushed valid

pub returns-in-Refuted : goal.returns-in-Refuted
returns-in-Refuted c =
    let p = c.args.course.now.policy.now in
    let f = c.args.course.now.number in
    let problem = problem_without p f c.args.absent.now in
    let found = subst (λ (o : Outcome). HasSolved problem no_users no_steps o) c.in-Refuted.is c.in_ok-plan.ensures in (
      stays_grown p f c.args.family.now c.requires.family,
      found.refutes,
    )
