use Rattle.std.proofs.Common.{◌≡◌, take}
use Rattle.wire_json.proofs.writer.are_same.Given as goal

abbrev pub invariant-steps : goal.invariant-steps
invariant-steps l = take l.s l.a ≡ take l.s l.b
