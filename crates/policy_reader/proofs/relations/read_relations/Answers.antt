use Rattle.policy_reader.proofs.Relating.{ascend_none}
use Rattle.policy_reader.proofs.relations.read_relations.Goals as goal

pub returns-in_ok-new-in-None-clause-ascend : goal.returns-in_ok-new-in-None-clause-ascend
returns-in_ok-new-in-None-clause-ascend c = rw c.in_ok-new-in-None.ensures ascend_none
