use Rattle.basics.specs.PairLaws.{ascending_none}
use Rattle.user_relations.proofs.kinds.pairs.Goals as goal

pub returns-in-None-clause-ascending : goal.returns-in-None-clause-ascending
returns-in-None-clause-ascending c = rw c.new.ensures.items ascending_none

pub returns-in-Some-Complement-clause-ascending : goal.returns-in-Some-Complement-clause-ascending
returns-in-Some-Complement-clause-ascending c = rw c.new-in-Some-Complement.ensures.items ascending_none
