use Rattle.std.proofs.Common.{◌+◌, ◌-◌, ◌≤◌, ◌≡◌, length}
use Rattle.std.specs.Io.KnownBytes.{Consumes}
use Rattle.wf_system.proofs.reading.read_all.Given as goal

abbrev pub invariant-reading : goal.invariant-reading
invariant-reading g l =
    record {
      read : Consumes (g.R.Read.remaining l.fn.reader) (g.R.Read.remaining l.reader) l.bytes.items;
      within : length l.bytes.items ≤ l.limit + 1;
      buffer : length l.buf.items ≡ l.chunk;
    }

abbrev pub decreases-reading : goal.decreases-reading
decreases-reading g l = l.limit + 1 - length l.bytes.items
