use Rattle.std.proofs.Common.{◌≡◌, [], option_map, drop, sym, ap, ◌∙◌, arith}
use Rattle.std.proofs.lemmas.Grind.{common_steps}
use Rattle.wire_json.specs.Objects.{worth_data}
use Rattle.wire_json.proofs.Flats.{last_at, found_at}
use Rattle.wire_json.proofs.flat.worth_at.Goals as goal

pub returns : goal.returns
returns c =
    let over : drop c.parts.part-index c.args.parts.now ≡ [] = grind (arith, common_steps) in
    ap (last_at c.args.key.now (option_map worth_data c.parts.found)) (sym over) ∙ c.parts.invariant ∙ found_at c.args.key.now c.args.parts.now
