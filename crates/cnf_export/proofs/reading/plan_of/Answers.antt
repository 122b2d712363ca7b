use Rattle.std.proofs.Common.{◌∙◌, sym, ap, subst}
use Rattle.policy_book.specs.Laws.Plans.{IsValidPlan}
use Rattle.policy_book.specs.Policies.{problem_of}
use Rattle.cnf_export.specs.Laws.Encodings.{clauses_of}
use Rattle.cnf_export.specs.Models.{AreSound}
use Rattle.cnf_export.specs.Readings.{first_false}
use Rattle.cnf_export.specs.Saying.{has_variable}
use Rattle.cnf_export.proofs.Firsts.{all_true}
use Rattle.cnf_export.proofs.reading.plan_of.Goals as goal

pub returns-in_ok-plan_said-in-None-clause-reading : goal.returns-in_ok-plan_said-in-None-clause-reading
returns-in_ok-plan_said-in-None-clause-reading c =
    let problem = problem_of c.args.p.now c.args.f in
    let m = has_variable c.args.m.now in
    let clauses = clauses_of problem c.args.a.now c.args.done.now in
    let none = ap (first_false 0 m) (sym c.in_ok-encoder.ensures.all) ∙ sym c.in_ok-i.ensures ∙ c.in-None.is in
    let plan = c.in_ok-plan_said-in-None.ensures in
    let sound : AreSound problem = record { named = c.rules-ruled.ensures.well_formed; members = λ k r is. (c.rules-ruled.ensures.ruled k r is).members } in (
      none,
      (
        plan,
        subst (λ q. IsValidPlan problem c.args.a.now c.args.done.now q) (sym plan)
            (c.models_are_plans.ensures problem c.args.a.now c.args.done.now m sound c.requires.within (all_true m clauses none)),
      ),
    )
