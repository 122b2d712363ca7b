use Rattle.std.proofs.Common.{◌∙◌, ap}
use Rattle.line_reader.specs.Jobs.{Cut}
use Rattle.line_reader.specs.Cutter.{emptied}
use Rattle.line_reader.specs.BatchReader.{BatchReaderShape}
use Rattle.line_reader.proofs.ReadingLaws.{closed_at, closed_on, closed_none, closed_batch, up_before, closed_counts}
use Rattle.line_reader.proofs.batch_reader.BatchReader.next_batch.Goals as goal

pub returns-in-NoMemory-clause-up : goal.returns-in-NoMemory-clause-up
returns-in-NoMemory-clause-up g c before h read =
    let reads = c.read_batch-paused.ensures.reads before h read in
    (up_before before _ h _ c.read_batch-paused.result reads, closed_none before _ h _ c.new.result c.read_batch-paused.result reads c.new.ensures)

pub returns-in-NoMemory-clause-reads : goal.returns-in-NoMemory-clause-reads
returns-in-NoMemory-clause-reads g c before h read =
    closed_none before _ h _ c.new.result c.read_batch-paused.result (c.read_batch-paused.ensures.reads before h read) c.new.ensures

pub returns-in-NoMemory-clause-counts : goal.returns-in-NoMemory-clause-counts
returns-in-NoMemory-clause-counts g c = closed_counts _ _ c.read_batch-paused.result _ _ _ c.in-NoMemory.ensures.closes c.read_batch-paused.ensures.counts

pub returns-in_default-clause-reads : goal.returns-in_default-clause-reads
returns-in_default-clause-reads g c before h read =
    (closed_at before _ h _ c.close_batch.new.self.cut c.take_batch.result c.self.inside.pieces.room c.read_batch-paused.result c.close_batch.result
    (c.read_batch-paused.ensures.reads before h read) c.read_batch-paused.ensures.pauses c.close_batch.ensures.closes c.in_default.not-NoMemory
    (c.take_batch.ensures.batch ∙ ap (λ (s : BatchReaderShape). s.cut.jobs) c.self.view_is)
    (ap (λ (s : BatchReaderShape). s.room) c.self.view_is ∙ c.close_batch.ensures.room)).reads

pub returns-in_default-clause-up : goal.returns-in_default-clause-up
returns-in_default-clause-up g c before h read =
    let reads = c.read_batch-paused.ensures.reads before h read in (
      up_before before _ h _ c.read_batch-paused.result reads,
      (closed_at before _ h _ c.close_batch.new.self.cut c.take_batch.result c.self.inside.pieces.room c.read_batch-paused.result c.close_batch.result
          reads c.read_batch-paused.ensures.pauses c.close_batch.ensures.closes c.in_default.not-NoMemory
          (c.take_batch.ensures.batch ∙ ap (λ (s : BatchReaderShape). s.cut.jobs) c.self.view_is)
          (ap (λ (s : BatchReaderShape). s.room) c.self.view_is ∙ c.close_batch.ensures.room)).up,
    )

pub returns-in_default-clause-goes_on : goal.returns-in_default-clause-goes_on
returns-in_default-clause-goes_on g c batch before h read =
    let closes = closed_batch c.read_batch-paused.new.self.cut c.close_batch.new.self.cut c.read_batch-paused.result c.close_batch.result
    c.close_batch.ensures.closes batch in
    closed_on before _ h c.read_batch-paused.new.self _ c.take_batch.result
    (rw closes.0 at c.read_batch-paused.ensures.reads before h read) (rw closes.0 at c.read_batch-paused.ensures.pauses).1
    (c.take_batch.ensures.batch ∙ ap (λ (s : BatchReaderShape). s.cut.jobs) c.self.view_is ∙ ap (λ (d : Cut). d.jobs) closes.1)
    (c.take_batch.ensures.left ∙ ap (λ (s : BatchReaderShape). emptied s.cut) c.self.view_is ∙ ap emptied closes.1)
    (ap (λ (s : BatchReaderShape). s.pending) c.self.view_is ∙ c.close_batch.ensures.pending)
