use Rattle.wf_lanes.proofs.Turning.{begun_right, fixed_committed, grows_committed, has_turned, idle_after, may_give, quiet_starts}
use Rattle.wf_lanes.proofs.table_turns.TableTurnsTurns.commit.Goals as goal

pub commit-outcome-requires-clause-right : goal.commit-outcome-requires-clause-right
commit-outcome-requires-clause-right g c =
    begun_right c.args.self.now.lane c.args.self.now.number c.args.task.now c.args.verdict c.take-later.result c.requires.begun c.requires.right
    c.take-later.ensures.fixed
    (quiet_starts _ _ _ c.take-later.ensures.list)

pub give-requires-clause-list : goal.give-requires-clause-list
give-requires-clause-list g c =
    may_give c.args.self.now.lane c.take-later.new.lane c.take-later.result c.commit-outcome.new.self c.args.self.now.number c.requires.fits.1.number
    c.take-later.ensures.lane
    (grows_committed c.take-later.result c.commit-outcome.new.self c.args.self.now.number c.args.task.now c.args.verdict c.commit-outcome.result
    c.requires.begun.1.1.0.lane c.commit-outcome.ensures)

pub returns-clause-fits : goal.returns-clause-fits
returns-clause-fits g c = (
  c.requires.fits.0,
  idle_after c.args.self.now.table.now c.args.self.now.lane c.take-later.new.lane c.give.new.lane c.take-later.result c.commit-outcome.new.self _
      c.args.self.now.number
      c.requires.fits.1 c.take-later.ensures.lane c.give.ensures.lane,
)

pub returns-clause-committed : goal.returns-clause-committed
returns-clause-committed g c = (
  c.take-later.result,
  (
    c.commit-outcome.new.self,
    (
      has_turned c.args.self.now.lane c.take-later.new.lane c.give.new.lane c.take-later.result c.commit-outcome.new.self _ _ c.take-later.ensures.fixed
          c.take-later.ensures.list
          c.take-later.ensures.lane (fixed_committed c.take-later.result c.commit-outcome.new.self c.args.task.now c.args.verdict
          c.commit-outcome.result c.commit-outcome.ensures)
          c.give.ensures.lane,
      c.commit-outcome.ensures,
    ),
  ),
)
