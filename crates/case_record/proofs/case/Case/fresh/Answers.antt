use Rattle.std.proofs.Common.{ap, ◌∙◌}
use Rattle.std.proofs.lemmas.List.{take-replicate}
use Rattle.wf_names.specs.declared.limits.TheConstants.{STEP_LIMIT}
use Rattle.wf_names.specs.declared.states.StepState.TheVariants.{Free}
use Rattle.wf_names.specs.declared.states.Phase.TheVariants.{Live}
use Rattle.case_record.specs.Cases.{assigned_of, finished_of}
use Rattle.case_record.proofs.Laws.{assigned_of-fresh, finished_of-fresh}
use Rattle.wf_names.proofs.PaddedLists.{all_blank}
use Rattle.case_record.proofs.case.Case.fresh.Goals as goal

pub invariant_of-result : goal.invariant_of-result
invariant_of-result c = rw c.all_free.ensures (all_blank STEP_LIMIT Free c.args.steps c.requires)

pub returns-clause-case : goal.returns-clause-case
returns-clause-case c =
    rw c.all_free.ensures (λ i. record { flow = c.args.flow; states = take-replicate c.args.steps STEP_LIMIT Free c.requires i; phase = Live })

pub returns-clause-assigned : goal.returns-clause-assigned
returns-clause-assigned c = ap assigned_of (returns-clause-case c) ∙ assigned_of-fresh c.args.flow c.args.steps c.requires

pub returns-clause-finished : goal.returns-clause-finished
returns-clause-finished c = ap finished_of (returns-clause-case c) ∙ finished_of-fresh c.args.flow c.args.steps c.requires
