use Rattle.std.proofs.Common.{◌++◌, ◌∷◌, [], ap, sym, ◌∙◌}
use Rattle.wire_json.proofs.Texts.{added_3, name_stays}
use Rattle.wire_json.proofs.text.push_quoted.Goals as goal

pub returns : goal.returns
returns c =
    added_3 _ _ _ _ _ _ _ c.in_ok-push.ensures c.in_ok-push_bare.ensures.added c.in_ok-push-2.ensures
    ∙ ap (λ x. c.args.out.now.items ++ 34 ∷ (x ++ 34 ∷ [])) (sym (name_stays c.args.name.now c.push_bare.ensures.form))
