use Rattle.std.proofs.Common.{refl}
use Rattle.constraint_forms.specs.Assign.{no_steps, no_users}
use Rattle.wf_board.specs.declared.verdict.Verdict.TheVariants as verdicts
use Rattle.wf_board.proofs.Certificates.{certificate_same}
use Rattle.wf_board.proofs.granted.is_opening_plan.Goals as goal

pub returns : goal.returns
returns c =
    certificate_same c.args.course.now.policy.now c.args.course.now.number c.args.course.now.number no_users c.empty-assigned.result no_steps
    c.empty-finished.result (verdicts.Plan c.args.plan.now)
    c.is_valid_plan.result
    refl c.empty-assigned.ensures.value c.empty-finished.ensures.value c.is_valid_plan.ensures
