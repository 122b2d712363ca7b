use Rattle.policy_reader.proofs.Writing.{on_ok}
use Rattle.policy_reader.proofs.document.put_relations.Goals as goal

pub returns-clause-named : goal.returns-clause-named
returns-clause-named c = rw (← c.relations.ensures.relations) (on_ok c.put.result _ c.in_ok-relations.ensures.named)
