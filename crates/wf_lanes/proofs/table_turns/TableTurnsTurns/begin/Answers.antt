use Rattle.wf_lanes.proofs.Turning.{fixed_begun, grows_begun, has_turned, idle_after, may_give}
use Rattle.wf_lanes.proofs.table_turns.TableTurnsTurns.begin.Goals as goal

pub give-requires-clause-list : goal.give-requires-clause-list
give-requires-clause-list g c =
    may_give c.args.self.now.lane c.take-desk.new.lane c.take-desk.result c.begin_at-begun.new.desk c.args.self.now.number c.requires.fits.1.number
    c.take-desk.ensures.lane
    (grows_begun c.take-desk.result c.begin_at-begun.new.desk c.args.self.now.number c.begin_at-begun.result c.begin_at-begun.ensures)

pub returns-clause-fits : goal.returns-clause-fits
returns-clause-fits g c = (
  c.requires.fits.0,
  idle_after c.args.self.now.table.now c.args.self.now.lane c.take-desk.new.lane c.give.new.lane c.take-desk.result c.begin_at-begun.new.desk _
      c.args.self.now.number
      c.requires.fits.1 c.take-desk.ensures.lane c.give.ensures.lane,
)

pub returns-clause-begun : goal.returns-clause-begun
returns-clause-begun g c = (
  c.take-desk.result,
  (
    c.begin_at-begun.new.desk,
    (
      has_turned c.args.self.now.lane c.take-desk.new.lane c.give.new.lane c.take-desk.result c.begin_at-begun.new.desk _ _ c.take-desk.ensures.fixed
          c.take-desk.ensures.list
          c.take-desk.ensures.lane (fixed_begun c.take-desk.result c.begin_at-begun.new.desk c.args.self.now.number c.begin_at-begun.result
          c.begin_at-begun.ensures) c.give.ensures.lane,
      c.begin_at-begun.ensures,
    ),
  ),
)
