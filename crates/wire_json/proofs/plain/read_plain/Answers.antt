use Rattle.std.proofs.Common.{◌≡◌, [], ◌∷◌, true, false, sym, subst, arith}
use Rattle.std.specs.Prelude.{IfSome}
use Rattle.wire_json.specs.Plain.{known_members, IsRest}
use Rattle.wire_json.proofs.PlainLines.{rest_over, line_read, line_asked}
use Rattle.wire_json.proofs.plain.read_plain.Goals as goal

pub parts-init : goal.parts-init
parts-init c = (false, [], tt, λ all r. line_read c.args.line.now c.in_ok-rest.rest.now all c.in_ok-rest.ensures r)

pub parts-preserved : goal.parts-preserved
parts-preserved c =
    let here = c.parts.invariant in
    let next = c.in_ok-rest-3.ensures in (
      true,
      next.0,
      next.1,
      λ all r. here.3 all (c.in_ok-rest-2.ensures here.0 here.1 all here.2
          (subst (λ t. IsRest true (known_members c.read_part.new.known) t all) (sym next.2) r)),
    )

pub returns-then-is_end : goal.returns-then-is_end
returns-then-is_end c =
    let here = c.parts.invariant in
    let all = known_members c.read_part.new.known in
    let over : c.in_ok-rest-2.rest.now ≡ 125 ∷ [] = grind arith in
    let value = here.3 all (c.in_ok-rest-2.ensures here.0 here.1 all here.2 (subst (λ t. IsRest true all t all) (sym over) (rest_over all))) in
    subst (λ x. IfSome c.asked.result (λ a. a ≡ x)) (line_asked c.args.lanes c.args.line.now all value) c.asked.ensures
