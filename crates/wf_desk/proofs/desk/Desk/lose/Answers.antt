use Rattle.wf_desk.proofs.CommitLaws.{lose_keeps}
use Rattle.wf_desk.proofs.desk.Desk.lose.Goals as goal

pub invariant_of-self : goal.invariant_of-self
invariant_of-self c =
    record {
      desk = lose_keeps _ _ c.args.task.now c.number-end.result c.self.invariant.desk (rw (← c.self.view_is) at c.number-end.ensures)
          (rw (← c.self.view_is) at c.requires.next)
          (rw (← c.self.view_is) at c.requires.stale) (rw (← c.self.view_is) at c.requires.lost);
      begins = c.self.invariant.begins;
    }
