use Rattle.wf_lanes.proofs.Turning.{begun_ended, begun_task}
use Rattle.wf_lanes.proofs.worker.work.Goals as goal

pub commit-requires-clause-begun : goal.commit-requires-clause-begun
commit-requires-clause-begun g c =
    begun_task (g.T.Turns.known c.working.turns) (g.T.Turns.known c.begin.new.self) (g.T.Turns.lane c.begin.new.self) (g.T.Turns.lane c.working.turns)
    c.in-Task.task
    c.in-Task.ensures.begun c.begin.ensures.lane

pub returns-in-Ended-clause-ended : goal.returns-in-Ended-clause-ended
returns-in-Ended-clause-ended g c =
    begun_ended (g.T.Turns.known c.working.turns) (g.T.Turns.known c.begin.new.self) (g.T.Turns.lane c.begin.new.self) (g.T.Turns.lane c.working.turns)
    c.in-Ended.ensures.begun c.begin.ensures.lane
