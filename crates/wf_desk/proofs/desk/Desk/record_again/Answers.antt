use Rattle.std.proofs.Common.{◌≤◌, sym, subst}
use Rattle.wf_board.specs.Counting.{counted}
use Rattle.wf_desk.proofs.CommitLaws.{again_keeps, stale_counts}
use Rattle.wf_desk.proofs.DeskLaws.{desk_small, has_room, stands_here}
use Rattle.wf_desk.proofs.desk.Desk.record_again.Goals as goal

pub last_counting-requires-clause-some : goal.last_counting-requires-clause-some
last_counting-requires-clause-some c =
    subst (λ d. 1 ≤ counted c.job_of-job.result.ask d.entries) (sym c.self.view_is)
    (stale_counts c.args.self.now c.args.task.now c.job_of-job.result c.job_of-job.ensures c.requires.stale)

pub last_counting-requires-clause-small : goal.last_counting-requires-clause-small
last_counting-requires-clause-small c = desk_small _ _ c.self.invariant.desk

pub add_entry-at-requires-clause-room : goal.add_entry-at-requires-clause-room
add_entry-at-requires-clause-room c = has_room _ _ c.args.task.now.lane _ c.self.invariant.desk (rw (← c.self.view_is) at c.requires.next)

pub add_entry-at-requires-clause-small : goal.add_entry-at-requires-clause-small
add_entry-at-requires-clause-small c = desk_small _ _ c.self.invariant.desk

pub go_on-requires-clause-here : goal.go_on-requires-clause-here
go_on-requires-clause-here c =
    rw (c.batch_of.ensures, c.job_of-job.ensures)
    (stands_here _ _ c.args.task.now.lane _ c.self.invariant.desk (rw (← c.self.view_is) at c.requires.lane) (rw (← c.self.view_is) at c.requires.next))

pub invariant_of-self : goal.invariant_of-self
invariant_of-self c =
    record {
      desk = again_keeps _ c.self.inside.places c.go_on.new.places c.args.task.now c.job_of-job.result c.last_counting.result c.add_entry-at.new.journal.entries
          c.add_entry-at.new.journal.spare c.no_loss.result c.self.invariant.desk c.job_of-job.ensures
          (rw (← c.self.view_is) at c.requires.lane) c.go_on.ensures.sized (rw (← c.self.view_is) at c.requires.next)
          (rw (← c.self.view_is) at c.requires.stale) (rw (← c.self.view_is) at c.requires.lost) (rw (← c.self.view_is) at c.requires.last)
          c.last_counting.ensures
          c.add_entry-at.ensures.room c.add_entry-at.ensures.added c.no_loss.ensures (rw c.batch_of.ensures at c.go_on.ensures.moved);
      begins = c.self.invariant.begins;
    }
