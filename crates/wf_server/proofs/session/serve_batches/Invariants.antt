use Rattle.std.proofs.Common.{◌≡◌}
use Rattle.line_reader.specs.Jobs.{Cut}
use Rattle.line_reader.specs.BatchReader.{CanReadOn, left_to_read}
use Rattle.run_record.specs.Laws.Run.{Streams, streams_of}
use Rattle.wf_server.specs.Batch.{IsServedOn}
use Rattle.wf_server.specs.Batches.{told_of, IsServing}
use Rattle.wf_server.proofs.session.serve_batches.Given as goal

abbrev pub invariant-serving : goal.invariant-serving
invariant-serving g l =
    let begun = streams_of g.S.Source.left g.S.Source.faults g.K.Sink.held g.K.Sink.faults l.fn.source l.fn.sink in
    record {
      ready : CanReadOn l.reader;
      room : l.reader.room ≡ l.fn.reader.room;
      on : IsServedOn (g.W.Way.leaves l.way) l.fn.desk l.desk;
      serving : (first : Cut) (before : Streams) → IsServing first before begun l.fn.reader l.fn.desk (told_of l.fn.desk l.fn.told) → IsServing first before
          (streams_of g.S.Source.left g.S.Source.faults g.K.Sink.held g.K.Sink.faults l.source l.sink)
          l.reader l.desk (told_of l.desk l.told);
    }

abbrev pub decreases-serving : goal.decreases-serving
decreases-serving g l = left_to_read l.reader
