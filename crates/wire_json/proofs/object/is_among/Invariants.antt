use Rattle.std.proofs.Common.{◌≡◌, map, drop, nat_eq}
use Rattle.std.specs.List.{list_any}
use Rattle.std.specs.Cmp.Lexicographic.{pointwise}
use Rattle.wire_json.proofs.object.is_among.Given as goal

abbrev pub invariant-texts : goal.invariant-texts
invariant-texts l =
    list_any (pointwise nat_eq l.text) (map (λ k. k.now) (drop l.word-index l.texts)) ≡ list_any (pointwise nat_eq l.text) (map (λ k. k.now) l.texts)
