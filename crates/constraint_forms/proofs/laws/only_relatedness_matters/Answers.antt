use Rattle.constraint_forms.proofs.Exchanges.{exchange_does_not_matter}
use Rattle.constraint_forms.proofs.RuleLaws.{sees_relatedness}
use Rattle.constraint_forms.proofs.laws.only_relatedness_matters.Goals as goal

pub returns-clause-alike : goal.returns-clause-alike
returns-clause-alike c = sees_relatedness

pub returns-clause-exchange : goal.returns-clause-exchange
returns-clause-exchange c = exchange_does_not_matter
