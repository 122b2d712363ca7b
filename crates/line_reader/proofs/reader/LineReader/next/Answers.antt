use Rattle.std.proofs.Common.{refl, ◌∙◌}
use Rattle.line_reader.proofs.Going.{seen_here, steps_on, goes_further, counts_still}
use Rattle.line_reader.proofs.reader.LineReader.next.Goals as goal

pub reading-init : goal.reading-init
reading-init g c = record {
  seen = seen_here (g.S.Source.left c.args.source.now) c.args.self.now _ c.begin.ensures.pending;
  begun = c.begin.ensures.begun;
  limit = c.begin.ensures.limit;
  room = c.begin.ensures.room;
  faults = refl;
}

pub reading-preserved : goal.reading-preserved
reading-preserved g c =
    let on = goes_further (g.S.Source.left c.args.source.now) (g.S.Source.left c.reading.source) (g.S.Source.left c.advance.new.source) c.args.self.now
    c.reading.self c.advance.new.self c.advance.result
    c.reading.invariant.seen c.advance.ensures.steps c.in-None.is in
    record {
      seen = on.0;
      begun = on.1;
      limit = c.advance.ensures.limit ∙ c.reading.invariant.limit;
      room = c.advance.ensures.room ∙ c.reading.invariant.room;
      faults = counts_still c.advance.result _ _ c.advance.ensures.counts c.in-None.is ∙ c.reading.invariant.faults;
    }

pub returns-in-Some-clause-reads : goal.returns-in-Some-clause-reads
returns-in-Some-clause-reads g c =
    steps_on (g.S.Source.left c.args.source.now) (g.S.Source.left c.reading.source) (g.S.Source.left c.advance.new.source) c.args.self.now c.reading.self
    c.advance.new.self c.advance.result c.in-Some.read
    c.reading.invariant.seen c.reading.invariant.limit c.reading.invariant.room c.advance.ensures.steps c.in-Some.is
