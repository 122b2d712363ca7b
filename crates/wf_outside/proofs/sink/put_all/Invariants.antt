use Rattle.std.proofs.Common.{◌≡◌, ◌-◌, ◌≤◌, length, take}
use Rattle.wf_outside.specs.Laws.Outside.{with_bytes}
use Rattle.wf_outside.proofs.sink.put_all.Given as goal

abbrev pub invariant-putting : goal.invariant-putting
invariant-putting g l =
    record {
      within : l.done ≤ length l.bytes;
      taken : g.K.Sink.held l.sink ≡ with_bytes (g.K.Sink.held l.fn.sink) (take l.done l.bytes);
      faults : g.K.Sink.faults l.sink ≡ g.K.Sink.faults l.fn.sink;
    }

abbrev pub decreases-putting : goal.decreases-putting
decreases-putting g l = length l.bytes - l.done
