use Rattle.std.proofs.Common.{◌<◌, ◌++◌, [], ◌∷◌, length, inl, refl, ap, ◌∙◌, arith}
use Rattle.std.proofs.lemmas.Grind.{common_steps}
use Rattle.wire_json.proofs.PlainLines.{blank_first}
use Rattle.wire_json.proofs.plain.take_spaced.Goals as goal

pub returns-then-rest-eq32 : goal.returns-then-rest-eq32
returns-then-rest-eq32 c =
    let some : 0 < length c.in_ok-rest.rest.now = grind (arith, common_steps) in
    (32 ∷ [], (inl refl, tt), c.in_ok-rest.ensures ∙ ap (λ t. c.args.front.now ++ t) (blank_first c.in_ok-rest.rest.now some c.if-rest-eq32.true))
