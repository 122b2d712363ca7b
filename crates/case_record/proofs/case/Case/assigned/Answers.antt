use Rattle.std.proofs.Common.{ap, ◌∙◌}
use Rattle.constraint_forms.specs.Assign.{user_at}
use Rattle.case_record.proofs.Laws.{assigned_of-at}
use Rattle.wf_names.specs.declared.limits.TheConstants.{STEP_LIMIT}
use Rattle.wf_names.specs.declared.states.StepState.TheVariants.{Free}
use Rattle.wf_names.specs.Padded.{padded-take}
use Rattle.case_record.proofs.case.Case.assigned.Goals as goal

pub returns-clause-value : goal.returns-clause-value
returns-clause-value c = rw (← c.self.view_is, padded-take STEP_LIMIT Free c.self.inside.cells c.self.inside.steps c.self.invariant) c.assigned.ensures

pub returns-clause-users : goal.returns-clause-users
returns-clause-users c s = ap (λ a. user_at a s) (returns-clause-value c) ∙ assigned_of-at c.args.self.now s
