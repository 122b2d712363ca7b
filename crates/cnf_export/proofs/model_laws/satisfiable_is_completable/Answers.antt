use Rattle.cnf_export.specs.Laws.Encodings.{encoding_of}
use Rattle.cnf_export.specs.Models.{plan_said}
use Rattle.cnf_export.specs.Saying.{has_variable, plan_flags}
use Rattle.cnf_export.proofs.Grids.{says_plan}
use Rattle.cnf_export.proofs.model_laws.satisfiable_is_completable.Goals as goal

pub returns : goal.returns
returns c p assigned finished sound within all = (
  λ one. (plan_said (encoding_of p assigned finished) one.0, c.models_are_plans.ensures p assigned finished one.0 sound within one.1),
  λ done. (
    has_variable (plan_flags p done.0),
    c.plans_are_models.ensures p assigned finished done.0 (has_variable (plan_flags p done.0)) sound all done.1 (says_plan p done.0 assigned finished),
  ),
)
