use Rattle.std.proofs.Common.{◌≡◌, ◌+◌, drop}
use Rattle.transcript_commands.specs.Laws.Begun.{ends_to}
use Rattle.transcript_commands.proofs.start.count_ends.Given as goal

abbrev pub invariant-ends : goal.invariant-ends
invariant-ends l =
    record {
      here : l.count ≡ l.end-index;
      rest : l.count + ends_to l.place (drop l.end-index l.ends) ≡ ends_to l.place l.ends;
    }
