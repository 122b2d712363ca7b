use Rattle.std.proofs.Common.{◌≡◌, ◌≤◌, ℕ, List, Option}
use Rattle.line_reader.specs.BatchReader.{Handed, HasRead, CanReadOn, left_to_read}
use Rattle.line_reader.specs.Pausing.{reading_steps}
use Rattle.line_reader.proofs.batch_reader.BatchReader.read_batch.Given as goal

abbrev pub invariant-reading : goal.invariant-reading
invariant-reading g l =
    record {
      ready : CanReadOn l.self;
      reads : (before : Option (List ℕ)) (h : Handed) → HasRead before (g.S.Source.left l.fn.source) h l.fn.self →
          HasRead before (g.S.Source.left l.source) h l.self;
      far : left_to_read l.self ≤ left_to_read l.fn.self;
      room : l.self.room ≡ l.fn.self.room;
      faults : g.S.Source.faults l.source ≡ g.S.Source.faults l.fn.source;
    }

abbrev pub decreases-reading : goal.decreases-reading
decreases-reading g l = reading_steps l.self
