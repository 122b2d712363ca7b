use Rattle.std.proofs.Common.{◌≡◌, take}
use Rattle.std.specs.List.{flat_map}
use Rattle.wf_outside.specs.Laws.Outside.{with_bytes}
use Rattle.wf_server.proofs.writing.put_lines.Given as goal

abbrev pub invariant-lines : goal.invariant-lines
invariant-lines g l =
    record {
      written : g.K.Sink.held l.sink ≡ with_bytes (g.K.Sink.held l.fn.sink) (flat_map (λ line. line.items) (take l.line-index l.lines));
      faults : g.K.Sink.faults l.sink ≡ g.K.Sink.faults l.fn.sink;
    }
