use Rattle.user_relations.proofs.Numbered.{kind_written}
use Rattle.user_relations.proofs.kinds.set_kind.Goals as goal

pub returns-in-Some : goal.returns-in-Some
returns-in-Some c = kind_written c.args.declared.now c.args.rho c.in-Some.place c.index-declared-place.result c.args.kind c.in-Some.ensures
