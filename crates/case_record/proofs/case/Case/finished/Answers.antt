use Rattle.std.proofs.Common.{ap, ◌∙◌}
use Rattle.constraint_forms.specs.Assign.{is_member}
use Rattle.case_record.proofs.Laws.{finished_of-at}
use Rattle.wf_names.specs.declared.limits.TheConstants.{STEP_LIMIT}
use Rattle.wf_names.specs.declared.states.StepState.TheVariants.{Free}
use Rattle.wf_names.specs.Padded.{padded-take}
use Rattle.case_record.proofs.case.Case.finished.Goals as goal

pub returns-clause-value : goal.returns-clause-value
returns-clause-value c = rw (← c.self.view_is, padded-take STEP_LIMIT Free c.self.inside.cells c.self.inside.steps c.self.invariant) c.finished.ensures

pub returns-clause-members : goal.returns-clause-members
returns-clause-members c s = ap (λ a. is_member a s) (returns-clause-value c) ∙ finished_of-at c.args.self.now s
