use Rattle.std.proofs.Common.{◌∙◌, ◌<◌, ◌++◌, ◌∷◌, [], ℕ, length, ap, sym, arith, refl, map}
use Rattle.constraint_forms.specs.Assign.{is_member}
use Rattle.cnf_export.specs.Laws.Clauses.{yes_to}
use Rattle.cnf_export.specs.Laws.Encodings.{has}
use Rattle.cnf_export.specs.Terms.{encoding_in}
use Rattle.cnf_export.proofs.Listing.{listed_none, listed_one}
use Rattle.cnf_export.proofs.counting.add_takers.Goals as goal
use Rattle.cnf_export.proofs.counting.add_takers.Goals.{then-has+in_ok-add_yes, else-has}

pub members-preserved : goal.members-preserved
members-preserved c =
    let group = c.args.group.now in
    let f = λ (t : ℕ). yes_to (has (encoding_in c.args.terms.now) t c.args.u) in
    let below : c.members.t < length group = omega (arith, c.members-test.true, c.limit-limit.ensures.limit, c.limit-limit.ensures.len) in
    elim c.if-has.branch [
      | then-has+in_ok-add_yes w ↦
          listed_one (map f) (f c.members.t ∷ []) (is_member group) c.members.into c.if-has.into c.members.t (length group)
          (λ us. refl) below (sym c.has.ensures.flag ∙ w.if-has.true)
          (w.into-is ∙ w.in_ok-add_yes.ensures ∙ ap (λ v. c.members.into ++ yes_to v ∷ []) w.has-then-has.ensures.value)
          ∙ c.members.invariant
      | else-has w ↦
          listed_none (map f) (is_member group) c.members.into c.if-has.into c.members.t (length group) below
          (sym c.has.ensures.flag ∙ w.if-has.false) w.into-is
          ∙ c.members.invariant
    ]
