use Rattle.std.proofs.Common.{◌≡◌, ◌-◌, ℕ, List, Option, length}
use Rattle.wf_server.specs.Batch.{IsServedOn}
use Rattle.wf_server.specs.Batches.{told_of, HasAnsweredAll}
use Rattle.wf_server.specs.Files.{IsToldTo}
use Rattle.wf_server.proofs.file.answer_file.Given as goal

abbrev pub invariant-answering : goal.invariant-answering
invariant-answering g l =
    record {
      told : IsToldTo l.file.jobs l.file.ends l.count (told_of l.desk l.told);
      on : IsServedOn (g.W.Way.leaves l.way) l.fn.desk l.desk;
      answered : (held : Option (List ℕ)) → HasAnsweredAll held (g.K.Sink.held l.fn.sink) l.fn.desk (told_of l.fn.desk l.fn.told) →
          HasAnsweredAll held (g.K.Sink.held l.sink) l.desk (told_of l.desk l.told);
      faults : g.K.Sink.faults l.sink ≡ g.K.Sink.faults l.fn.sink;
    }

abbrev pub decreases-answering : goal.decreases-answering
decreases-answering g l = length l.file.ends - l.count
