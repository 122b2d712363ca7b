use Rattle.wf_names.proofs.Places.{are_names}
use Rattle.wf_names.proofs.stored.StoredNames.len.Goals as goal

pub returns-clause-names : goal.returns-clause-names
returns-clause-names c = rw (← c.self.view_is) (are_names c.self.inside.set.keys c.len.ensures.unique c.self.invariant)
