use Rattle.std.proofs.Common.{◌++◌, length, refl, ap, ◌∙◌}
use Rattle.wire_json.proofs.Heads.{whole_rest}
use Rattle.wire_json.proofs.text.push_from.Goals as goal

pub returns : goal.returns
returns c =
    c.in_ok-push.ensures ∙ ap (λ t. c.args.out.now.items ++ t) (whole_rest (length c.args.cells.now) c.args.start c.args.cells.now refl)
