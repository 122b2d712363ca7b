use Rattle.std.proofs.Common.{◌≡◌, [], ◌++◌, map, drop, sym, ap, ◌∙◌, arith}
use Rattle.std.proofs.lemmas.Grind.{common_steps}
use Rattle.wire_json.proofs.Flats.{each_is_among, only_among, out_at}
use Rattle.wire_json.proofs.object.parts_have_only.Goals as goal

pub returns-then-not-is_either : goal.returns-then-not-is_either
returns-then-not-is_either c =
    let keys = map (λ k. k.now) c.args.others.now ++ map (λ k. k.now) c.args.keys.now in
    sym (out_at keys c.args.parts.now c.parts.part-index _ c.parts-test.true (sym c.if-not-is_either.ensures)) ∙ c.parts.invariant ∙
    only_among keys c.args.parts.now

pub returns : goal.returns
returns c =
    let keys = map (λ k. k.now) c.args.others.now ++ map (λ k. k.now) c.args.keys.now in
    let over : drop c.parts.part-index c.args.parts.now ≡ [] = grind (arith, common_steps) in
    ap (each_is_among keys) (sym over) ∙ c.parts.invariant ∙ only_among keys c.args.parts.now
