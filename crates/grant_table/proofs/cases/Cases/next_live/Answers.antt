use Rattle.std.proofs.Common.{arith}
use Rattle.grant_table.proofs.NextOpen.{next_some, next_none}
use Rattle.grant_table.proofs.cases.Cases.next_live.Goals as goal

pub returns-in-Some-clause-meaning : goal.returns-in-Some-clause-meaning
returns-in-Some-clause-meaning c =
    rw (← c.self.view_is) (next_some _ c.args.from c.in-Some.number c.self.invariant.sound.ascend (rw c.deref.ensures.value at c.in-Some.ensures))

pub returns-in-None-clause-meaning : goal.returns-in-None-clause-meaning
returns-in-None-clause-meaning c = grind (arith, next_none)
