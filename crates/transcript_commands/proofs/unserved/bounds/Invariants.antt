use Rattle.std.proofs.Common.{◌≡◌, drop}
use Rattle.transcript_commands.specs.Unserved.{end_at, start_at}
use Rattle.transcript_commands.proofs.unserved.bounds.Given as goal

abbrev pub invariant-ends : goal.invariant-ends
invariant-ends l = record {
  start : start_at l.from l.place (drop l.end-index l.ends) ≡ start_at 0 l.place l.ends;
  stop : end_at l.place (drop l.end-index l.ends) ≡ end_at l.place l.ends;
}
