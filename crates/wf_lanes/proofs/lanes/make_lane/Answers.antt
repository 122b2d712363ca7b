use Rattle.wf_lanes.proofs.Turning.{first_made, idle_made, room_made}
use Rattle.wf_lanes.proofs.lanes.make_lane.Goals as goal

pub returns-clause-idle : goal.returns-clause-idle
returns-clause-idle c =
    idle_made c.args.table.now c.args.first.now c.lane.result c.args.next c.args.count c.requires.first c.requires.room c.requires.some c.lane.ensures.lane

pub returns-clause-first : goal.returns-clause-first
returns-clause-first c = first_made c.args.table.now c.args.first.now c.lane.new.parent c.requires.first c.lane.ensures.parent

pub returns-clause-room : goal.returns-clause-room
returns-clause-room c = room_made c.args.first.now c.lane.new.parent c.args.next c.args.count c.requires.room c.requires.some c.lane.ensures.parent
