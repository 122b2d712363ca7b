use Rattle.std.proofs.Common.{◌≡◌, ◌∷◌, ◌++◌, false, refl, sym, ap, subst, ◌∙◌, arith}
use Rattle.std.specs.Prelude.{is_some, IsTrue}
use Rattle.wf_names.specs.Names.{is_name}
use Rattle.wire_json.proofs.PlainLines.{user_read}
use Rattle.wire_json.proofs.plain.Known.read_user.Goals as goal

pub returns : goal.returns
returns c =
    let none : is_some c.args.self.now.user ≡ false = grind arith in
    let is = sym c.in_ok-of_bytes.ensures.value in
    user_read c.args.self.now c.args.text.now c.in_ok-bytes.rest.now c.in_ok-of_bytes.field-0 none
    (subst (λ x. IsTrue (is_name x)) is (c.in_ok-of_bytes.ensures.form.0 refl))
    (c.in_ok-bytes.ensures ∙ ap (λ x. 34 ∷ (x ++ 34 ∷ c.in_ok-bytes.rest.now)) is)
