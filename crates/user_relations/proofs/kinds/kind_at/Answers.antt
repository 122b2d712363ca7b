use Rattle.user_relations.proofs.Numbered.{kind_read}
use Rattle.user_relations.proofs.kinds.kind_at.Goals as goal

pub returns-in-Some : goal.returns-in-Some
returns-in-Some c = kind_read c.args.declared.now c.args.rho c.in-Some.place c.index-declared-place.result c.in-Some.ensures
