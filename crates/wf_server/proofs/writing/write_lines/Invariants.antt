use Rattle.std.proofs.Common.{◌≡◌, take}
use Rattle.wf_outside.specs.Laws.Outside.{with_bytes}
use Rattle.wf_server.specs.Batches.{entries_text}
use Rattle.wf_server.proofs.writing.write_lines.Given as goal

abbrev pub invariant-writing : goal.invariant-writing
invariant-writing g l =
    record {
      policy : l.writer ≡ l.p;
      written : g.K.Sink.held l.sink ≡ with_bytes (g.K.Sink.held l.fn.sink) (entries_text l.p (take l.entry-index l.entries));
      faults : g.K.Sink.faults l.sink ≡ g.K.Sink.faults l.fn.sink;
    }
