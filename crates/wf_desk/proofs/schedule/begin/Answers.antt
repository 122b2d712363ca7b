use Rattle.std.proofs.Common.{refl, sym, ap, subst}
use Rattle.wf_desk.specs.declared.schedule.Solved.{Solved}
use Rattle.wf_desk.specs.Holding.{AreHeld, standing}
use Rattle.wf_desk.proofs.Scheduling.{begun_held, grown_none, held_put}
use Rattle.wf_desk.proofs.schedule.begin.Goals as goal

pub returns-in-Ok-Some : goal.returns-in-Ok-Some
returns-in-Ok-Some g c =
    let d = c.args.desk.now in
    let task = c.in-Ok-Some.task in
    let is = c.in-Ok-Some.ensures.task task c.in-Ok-Some.field-0-is in
    let found = c.solve_task-verdict.ensures in
    let x : Solved = record { task = task; verdict = c.solve_task-verdict.result } in
    record {
      done = (x, (is, (refl, (found, ap (standing d) c.put.ensures))));
      held = subst (AreHeld d) (sym c.put.ensures)
          (held_put d c.args.held.now c.args.lane x c.requires.can.held (begun_held d c.args.lane x c.journal-sound.ensures.sound is found));
      grown = grown_none d d refl;
    }
