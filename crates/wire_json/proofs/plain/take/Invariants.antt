use Rattle.std.proofs.Common.{◌≡◌, ◌++◌, take, drop}
use Rattle.wire_json.proofs.plain.take.Given as goal

abbrev pub invariant-bytes : goal.invariant-bytes
invariant-bytes l = l.text ≡ take l.i l.front ++ drop l.i l.text
