use Rattle.std.proofs.Common.{◌<◌, ◌++◌, ◌∷◌, [], ◌∙◌, get_or, take, refl, sym, ap, subst, take_all, arith}
use Rattle.std.proofs.lemmas.List.{take_more}
use Rattle.wf_desk.specs.declared.schedule.Event.TheVariants.{Begin}
use Rattle.wf_desk.specs.Holding.{AreHeld, standing}
use Rattle.wf_desk.specs.Schedules.{HasDoneAll, lane_of, no_tasks}
use Rattle.wf_desk.proofs.Scheduling.{done_more, grown_none, grown_then, lane_in, none_held}
use Rattle.wf_desk.proofs.schedule.run_all.Goals as goal

pub events-init : goal.events-init
events-init g c =
    let d = c.args.desk.now in
    record {
      run = subst (λ ms. HasDoneAll (standing d no_tasks) [] ms (standing d c.no_tasks-held.result)) (sym c.requires.none)
          (ap (standing d) c.no_tasks-held.ensures);
      held = subst (AreHeld d) (sym c.no_tasks-held.ensures) (none_held d);
      grown = grown_none d d refl;
      count = c.requires.empty;
      room = refl;
    }

pub take_turn-mark-requires-clause-can : goal.take_turn-mark-requires-clause-can
take_turn-mark-requires-clause-can g c =
    let events = c.args.events.now in
    let i = c.events.event-index in
    record {
      lane = subst (λ n. lane_of (get_or events i (Begin 0)) < n) (sym c.events.invariant.grown.lanes)
          (lane_in c.args.desk.now.lanes events i (Begin 0) c.requires.lanes c.events-test.true);
      held = c.events.invariant.held;
    }

pub events-preserved : goal.events-preserved
events-preserved g c =
    let events = c.args.events.now in
    let i = c.events.event-index in
    let inv = c.events.invariant in
    let start = standing c.args.desk.now no_tasks in
    let before = standing c.events.desk c.events.held in
    let after = standing c.take_turn-mark.new.desk c.take_turn-mark.new.held in
    let front = take i events in
    let event = get_or events i (Begin 0) in
    let marks = c.events.marks.items in
    let mark = c.take_turn-mark.result in
    record {
      run = subst (λ es. HasDoneAll start es c.push_reserved.new.self.items after) (sym (take_more events i (Begin 0) c.events-test.true))
          (subst (λ ms. HasDoneAll start (front ++ event ∷ []) ms after) (sym c.push_reserved.ensures.items)
          (done_more start front marks event mark before after inv.run c.take_turn-mark.ensures.done));
      held = c.take_turn-mark.ensures.held;
      grown = grown_then c.args.desk.now c.events.desk c.take_turn-mark.new.desk inv.grown c.take_turn-mark.ensures.grown;
      count = omega (arith, c.push_reserved.ensures.len, inv.count);
      room = c.push_reserved.ensures.capacity ∙ inv.room;
    }

pub returns-clause-run : goal.returns-clause-run
returns-clause-run g c = (
  c.events.held,
  subst (λ es. HasDoneAll (standing c.args.desk.now no_tasks) es c.events.marks.items (standing c.events.desk c.events.held))
      (take_all c.events.event-index c.args.events.now (omega (arith, c.events-test.false))) c.events.invariant.run,
)
