use Rattle.std.proofs.Common.{cond}
use Rattle.std.specs.Prelude.{Option}
use Rattle.basics.specs.Laws.Pairs.{Pairs}
use Rattle.user_relations.specs.Laws.Relations.{RelationKind}
use Rattle.user_relations.specs.Kinds.{changed, put_fault, take_fault}
use Rattle.user_relations.proofs.Numbered.{pairs_written, fault_read}
use Rattle.user_relations.proofs.kinds.change.Goals as goal

pub returns-clause-changed : goal.returns-clause-changed
returns-clause-changed c =
    pairs_written c.args.declared.now c.args.rho c.in-Some.place c.index-declared-place.result c.change_pair.new.kind
    (λ (p : Pairs). changed c.args.put p (c.args.u, c.args.v)) c.change_pair.result c.in-Some.ensures c.change_pair.ensures.changed

pub returns-clause-fault : goal.returns-clause-fault
returns-clause-fault c =
    fault_read c.args.declared.now c.args.rho c.in-Some.place c.index-declared-place.result
    (λ (o : Option RelationKind). cond c.args.put (put_fault o c.args.u c.args.v) (take_fault o c.args.u c.args.v))
    c.change_pair.result c.in-Some.ensures c.change_pair.ensures.fault
