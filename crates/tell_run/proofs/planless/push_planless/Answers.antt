use Rattle.std.proofs.Common.{◌∙◌, length, ap, sym, arith}
use Rattle.tell_run.proofs.Telling.{one_more}
use Rattle.tell_run.proofs.planless.push_planless.Goals as goal

pub flows-preserved : goal.flows-preserved
flows-preserved c = (
  omega (arith, c.flows-test.true, c.len-f-end.ensures.count, c.flows-2.ensures.count, ap length c.flows-2.ensures.names),
  (λ none. one_more c.args.p.now c.flows.f c.flows.some c.in_ok-lacks.lacks c.flows.invariant.1 c.in_ok-lacks.ensures (sym c.either-some.ensures ∙ none)),
)

pub returns : goal.returns
returns c none f below =
    c.flows.invariant.1 none f (omega (arith, below, c.flows-test.false, c.len-f-end.ensures.count, c.flows-2.ensures.count, ap length c.flows-2.ensures.names))
