use Rattle.wf_desk.proofs.Scheduling.{all_held_on, grown_served, served_done, served_some, unserved_done}
use Rattle.wf_desk.proofs.schedule.serve.Goals as goal

pub last_place-requires : goal.last_place-requires
last_place-requires g c =
    served_some c.args.desk.now c.serve_next.new.self c.args.lane c.serve_next.result c.if-serve_next.true c.serve_next.ensures

pub returns-then-serve_next : goal.returns-then-serve_next
returns-then-serve_next g c =
    let old = c.args.desk.now in
    let new = c.serve_next.new.self in
    let grown = grown_served old new c.args.lane c.serve_next.result c.serve_next.ensures in
    record {
      done = served_done old new c.args.held.now c.args.lane c.last_place.result c.serve_next.result c.if-serve_next.true c.serve_next.ensures
          c.last_place.ensures;
      held = all_held_on old new c.args.held.now grown c.requires.can.held;
      grown = grown;
    }

pub returns-else-serve_next : goal.returns-else-serve_next
returns-else-serve_next g c =
    let old = c.args.desk.now in
    let new = c.serve_next.new.self in
    let grown = grown_served old new c.args.lane c.serve_next.result c.serve_next.ensures in
    record {
      done = unserved_done old new c.args.held.now c.args.lane c.serve_next.result c.if-serve_next.false c.serve_next.ensures;
      held = all_held_on old new c.args.held.now grown c.requires.can.held;
      grown = grown;
    }
