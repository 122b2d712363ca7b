use Rattle.std.proofs.Common.{arith}
use Rattle.std.proofs.lemmas.List.{ext_get_or}
use Rattle.wf_names.specs.declared.states.StepState.TheVariants.{Free}
use Rattle.case_views.proofs.seen.are_alike.Goals as goal

pub returns : goal.returns
returns c = λ _.
    ext_get_or Free c.args.xs.now c.args.ys.now c.if-xs-ys.false (λ k below. c.states.invariant k (omega (arith, below, c.states-test.false)))
