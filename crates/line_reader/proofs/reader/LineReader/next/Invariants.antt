use Rattle.std.proofs.Common.{◌≡◌}
use Rattle.line_reader.specs.Reader.{HasSeen, pending}
use Rattle.line_reader.specs.Steps.{IsReadingLine, line_steps}
use Rattle.line_reader.proofs.reader.LineReader.next.Given as goal

abbrev pub invariant-reading : goal.invariant-reading
invariant-reading g l =
    record {
      seen : HasSeen (g.S.Source.left l.fn.source) (g.S.Source.left l.source) l.fn.self (pending l.self);
      begun : IsReadingLine l.self;
      limit : l.self.limit ≡ l.fn.self.limit;
      room : l.self.room ≡ l.fn.self.room;
      faults : g.S.Source.faults l.source ≡ g.S.Source.faults l.fn.source;
    }

abbrev pub decreases-reading : goal.decreases-reading
decreases-reading g l = line_steps l.self
