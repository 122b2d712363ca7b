use Rattle.std.proofs.Common.{◌≡◌, false}
use Rattle.wf_lanes.specs.Workers.{IsSameLane}
use Rattle.wf_lanes.proofs.worker.work.Given as goal

abbrev pub invariant-working : goal.invariant-working
invariant-working g l = record {
  fits : g.T.Turns.fits l.turns;
  settled : g.T.Turns.pending l.turns ≡ false;
  lane : g.T.Turns.lane l.turns ≡ g.T.Turns.lane l.fn.turns;
  same : IsSameLane (g.T.Turns.known l.fn.turns) (g.T.Turns.known l.turns);
}
