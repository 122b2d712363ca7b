use Rattle.std.proofs.Common.{◌≡◌, take, vec_capacity, vec_len}
use Rattle.wf_desk.specs.Holding.{AreHeld, standing}
use Rattle.wf_desk.specs.Schedules.{HasDoneAll, HasGrown, no_tasks}
use Rattle.wf_desk.proofs.schedule.run_all.Given as goal

-- the events so far were gone through
abbrev pub invariant-events : goal.invariant-events
invariant-events g l =
    record {
      run : HasDoneAll (standing l.fn.desk no_tasks) (take l.event-index l.events) l.marks.items (standing l.desk l.held);
      held : AreHeld l.desk l.held;
      grown : HasGrown l.fn.desk l.desk;
      count : vec_len l.marks ≡ l.event-index;
      room : vec_capacity l.marks ≡ vec_capacity l.fn.marks;
    }
