use Rattle.std.proofs.Common.{subst}
use Rattle.wf_lanes.specs.Workers.{HasNoJobLeft}
use Rattle.wf_lanes.proofs.server.LaneServerServer.serve.Goals as goal

pub returns-clause-ended : goal.returns-clause-ended
returns-clause-ended g c = subst (HasNoJobLeft c.work.new.turns.lane) c.work.ensures.lane c.work.ensures.ended
