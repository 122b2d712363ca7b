use Rattle.std.proofs.Common.{◌+◌, ◌-◌, ◌≤◌, ◌≡◌, length}
use Rattle.wf_outside.specs.Laws.Outside.{HasTaken}
use Rattle.wf_outside.proofs.source.take_all.Given as goal

abbrev pub invariant-taking : goal.invariant-taking
invariant-taking g l =
    record {
      taken : HasTaken (g.S.Source.left l.fn.source) (g.S.Source.left l.source) l.bytes.items;
      within : length l.bytes.items ≤ l.limit + 1;
      buffer : length l.buf.items ≡ l.chunk;
      faults : g.S.Source.faults l.source ≡ g.S.Source.faults l.fn.source;
    }

abbrev pub decreases-taking : goal.decreases-taking
decreases-taking g l = l.limit + 1 - length l.bytes.items
