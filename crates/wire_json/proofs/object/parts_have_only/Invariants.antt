use Rattle.std.proofs.Common.{◌≡◌, ◌++◌, map, drop}
use Rattle.wire_json.proofs.Flats.{each_is_among}
use Rattle.wire_json.proofs.object.parts_have_only.Given as goal

abbrev pub invariant-parts : goal.invariant-parts
invariant-parts l =
    each_is_among (map (λ k. k.now) l.others ++ map (λ k. k.now) l.keys) (drop l.part-index l.parts) ≡ each_is_among
    (map (λ k. k.now) l.others ++ map (λ k. k.now) l.keys) l.parts
