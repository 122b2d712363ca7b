use Rattle.std.proofs.Common.{sym, subst, Result, ◌↔◌, IsOk}
use Rattle.policy_book.specs.Laws.Plans.{IsValidPlan}
use Rattle.policy_book.specs.Policies.{problem_of}
use Rattle.certificate_check.specs.declared.plan.PlanFault.{PlanFault}
use Rattle.certificate_check.proofs.Verdicts.{verdict_tells}
use Rattle.certificate_check.proofs.plan.check_plan.Goals as goal

pub returns-clause-valid : goal.returns-clause-valid
returns-clause-valid c =
    subst (λ (r : Result (Unit {0}) PlanFault). IsOk r ↔ IsValidPlan (problem_of c.args.p.now c.args.f) c.args.a.now c.args.done.now c.args.plan.now)
    (sym c.verdict.ensures)
    (verdict_tells (problem_of c.args.p.now c.args.f) c.args.a.now c.args.done.now c.args.plan.now c.requires.whole c.requires.users c.requires.within)
