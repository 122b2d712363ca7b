use Rattle.std.proofs.Common.{◌≡◌, length, false, ◌||◌, Err, sym, ap, subst, ◌∙◌}
use Rattle.std.specs.FinSet as set
use Rattle.basics.specs.Laws.Pairs.{AllPairs}
use Rattle.wf_names.specs.declared.limits.TheConstants.{ROLE_LIMIT}
use Rattle.workflow_schema.specs.Flows.{has_twice, IsLeastCycle}
use Rattle.workflow_schema.proofs.TableSets.{permitted_by-is}
use Rattle.workflow_schema.proofs.Built.{listed_within, order_below, built_flow}
use Rattle.workflow_schema.proofs.flow.Flow.build.Goals as goal

pub frame_of-requires : goal.frame_of-requires
frame_of-requires c =
    let n = length c.args.steps.names in
    order_below n c.in-Some-Some.order (sym c.is_counted.ensures ∙ c.if-not-is_counted.false)
    (rw c.in-Some-Some.ensures.1 (listed_within n n c.args.order.now c.requires.order_in))

pub invariant_of-result : goal.invariant_of-result
invariant_of-result c =
    let n = length c.args.steps.names in
    rw (c.in-Ok.ensures.made.0, c.in-Ok.ensures.made.1)
    (built_flow c.args.steps.names c.in-Some-Some.order c.in-Ok.frame.later c.in-Some-Some.roles (sym c.is_counted.ensures ∙ c.if-not-is_counted.false)
    (rw c.in-Some-Some.ensures.1 (listed_within n n c.args.order.now c.requires.order_in)) c.in-Ok.ensures.made.2
    (subst (AllPairs _) (sym (permitted_by-is c.in-Some-Some.roles (set.from_list c.args.permits.now) c.in-Some-Some.ensures'.2))
    (listed_within ROLE_LIMIT n c.args.permits.now c.requires.permits_in))
    c.in-Some-Some.ensures'.1)

pub returns-in-Ok-clause-built : goal.returns-in-Ok-clause-built
returns-in-Ok-clause-built c =
    λ i. record {
      steps = (c.in-Ok.ensures.made.0 i).names;
      order = (c.in-Ok.ensures.made.1 ∙ c.in-Some-Some.ensures.1) i;
      permits = permitted_by-is c.in-Some-Some.roles (set.from_list c.args.permits.now) c.in-Some-Some.ensures'.2 i;
    }

pub returns-in-Err-clause-cycle : goal.returns-in-Err-clause-cycle
returns-in-Err-clause-cycle c s =
    let single : (has_twice c.args.order.now || has_twice c.args.permits.now) ≡ false = (λ i. c.in-Some-Some.ensures.0 i || c.in-Some-Some.ensures'.0 i) in (
      λ is. (
        sym c.is_counted.ensures ∙ c.if-not-is_counted.false,
        single,
        subst (λ o. IsLeastCycle o s) c.in-Some-Some.ensures.1 ((c.in-Err.ensures.cycle s).0 (ap Err (cc))),
      ),
      λ known. let same = (c.in-Err.ensures.cycle s).1 (subst (λ o. IsLeastCycle o s) (sym c.in-Some-Some.ensures.1) known.2) in ap Err (cc),
    )
