use Rattle.std.proofs.Common.{◌<◌, ◌∙◌, sym, subst}
use Rattle.wf_desk.specs.Holding.{AreHeld, standing}
use Rattle.wf_desk.proofs.Scheduling.{all_held_on, committed_done, grown_committed, held_none}
use Rattle.wf_desk.proofs.schedule.commit.Goals as goal

pub commit-requires-clause-lane : goal.commit-requires-clause-lane
commit-requires-clause-lane g c =
    let x = c.in-Some.field-0 in
    let here = c.requires.can.held c.args.lane x (sym c.take_held.ensures.held ∙ c.in-Some.is) in
    subst (λ n. n < c.args.desk.now.lanes) (sym here.lane) c.requires.can.lane

pub commit-requires-clause-right : goal.commit-requires-clause-right
commit-requires-clause-right g c =
    (c.requires.can.held c.args.lane c.in-Some.field-0 (sym c.take_held.ensures.held ∙ c.in-Some.is)).right

pub returns-in-Some : goal.returns-in-Some
returns-in-Some g c =
    let x = c.in-Some.field-0 in
    let old = c.args.desk.now in
    let new = c.commit.new.self in
    let grown = grown_committed old new x.task x.verdict c.commit.result c.commit.ensures in
    record {
      done = committed_done (standing old c.args.held.now) c.args.lane x c.commit.result c.mark_of.result (standing new c.take_held.new.held)
          c.mark_of.ensures (sym c.take_held.ensures.held ∙ c.in-Some.is) c.commit.ensures c.take_held.ensures.none;
      held = subst (AreHeld new) (sym c.take_held.ensures.none)
          (all_held_on old new _ grown (held_none old c.args.held.now c.args.lane c.requires.can.held));
      grown = grown;
    }
