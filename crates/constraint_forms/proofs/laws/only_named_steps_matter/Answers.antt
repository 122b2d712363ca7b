use Rattle.constraint_forms.proofs.RuleLaws.{falsified_by_named, satisfied_by_named}
use Rattle.constraint_forms.proofs.laws.only_named_steps_matter.Goals as goal

pub returns-clause-falsified : goal.returns-clause-falsified
returns-clause-falsified c = falsified_by_named

pub returns-clause-satisfied : goal.returns-clause-satisfied
returns-clause-satisfied c = satisfied_by_named
