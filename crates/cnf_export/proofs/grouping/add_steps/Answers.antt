use Rattle.std.proofs.Common.{◌<◌, ◌∙◌, arith}
use Rattle.cnf_export.specs.Laws.Encodings.{step_groups}
use Rattle.cnf_export.proofs.Listing.{next_number}
use Rattle.cnf_export.proofs.grouping.add_steps.Goals as goal

pub steps-preserved : goal.steps-preserved
steps-preserved c =
    let below : c.steps.s < c.args.steps = omega (arith, c.steps-test.true) in
    next_number step_groups c.steps.made.items c.add_step.new.made.items c.steps.s c.args.steps below c.in_ok-add_step.ensures ∙ c.steps.invariant
