use Rattle.std.proofs.Common.{◌≡◌, drop, nat_eq}
use Rattle.std.specs.Cmp.Lexicographic.{pointwise}
use Rattle.wire_json.proofs.object.are_same.Given as goal

abbrev pub invariant-bytes : goal.invariant-bytes
invariant-bytes l = pointwise nat_eq (drop l.i l.a) (drop l.i l.b) ≡ pointwise nat_eq l.a l.b
