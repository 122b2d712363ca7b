use Rattle.grant_table.proofs.cases.Cases.open_part.Goals as goal

pub returns : goal.returns
returns c = rw (← c.self.view_is) (c.self.inside.first, c.self.invariant.passed, (rw c.deref.ensures.value at c.behind.ensures))
