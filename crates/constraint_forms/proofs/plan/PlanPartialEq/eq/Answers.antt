use Rattle.std.specs.Prelude.{nat_eq}
use Rattle.std.specs.Cmp.Lexicographic.{pointwise}
use Rattle.constraint_forms.proofs.SamePlans.{same_plans}
use Rattle.constraint_forms.proofs.plan.PlanPartialEq.eq.Goals as goal

pub returns : goal.returns
returns c =
    same_plans _ _ _ _ _ _ (pointwise nat_eq) c.eq.result c.and_eq.result c.t1-1.invariant c.t2-1.invariant c.t1-1.view_is c.t2-1.view_is c.eq.ensures
    c.and_eq.ensures
