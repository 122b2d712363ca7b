use Rattle.std.proofs.Common.{refl, Err, sym, ap, subst, ◌∙◌}
use Rattle.basics.specs.Laws.Pairs.{AllPairs}
use Rattle.basics.specs.PairLaws.{all_empty}
use Rattle.wf_names.specs.declared.limits.TheConstants.{STEP_LIMIT}
use Rattle.workflow_schema.proofs.TableSets.{permitted_by-none}
use Rattle.workflow_schema.proofs.Built.{built_flow}
use Rattle.workflow_schema.proofs.flow.Flow.ordered_by.Goals as goal

pub invariant_of-result : goal.invariant_of-result
invariant_of-result c =
    rw (c.in-Ok.ensures.made.0, c.in-Ok.ensures.made.1)
    (built_flow c.args.steps.names c.args.order.now c.in-Ok.frame.later _ (sym c.is_counted.ensures ∙ c.if-not-is_counted.false) c.requires
    c.in-Ok.ensures.made.2
    (subst (AllPairs _) (sym (permitted_by-none STEP_LIMIT)) (all_empty _)) refl)

pub returns-in-Ok-clause-built : goal.returns-in-Ok-clause-built
returns-in-Ok-clause-built c =
    λ i. record { steps = (c.in-Ok.ensures.made.0 i).names; order = c.in-Ok.ensures.made.1 i; permits = permitted_by-none STEP_LIMIT i }

pub returns-in-Err-clause-cycle : goal.returns-in-Err-clause-cycle
returns-in-Err-clause-cycle c s = (
  λ is. (sym c.is_counted.ensures ∙ c.if-not-is_counted.false, (c.in-Err.ensures.cycle s).0 (ap Err (cc))),
  λ known. let same = (c.in-Err.ensures.cycle s).1 known.1 in ap Err (cc),
)
