use Rattle.constraint_forms.proofs.RuleLaws.{totals_decide, stays_falsified}
use Rattle.constraint_forms.proofs.laws.falsified_is_final.Goals as goal

pub returns-clause-total : goal.returns-clause-total
returns-clause-total c = totals_decide

pub returns-clause-stays : goal.returns-clause-stays
returns-clause-stays c = stays_falsified
