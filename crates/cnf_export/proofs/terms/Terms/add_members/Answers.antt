use Rattle.std.proofs.Common.{◌∙◌, ◌<◌, ◌&&◌, ℕ, map, length, sym, arith, refl}
use Rattle.std.specs.List.{flat_map}
use Rattle.constraint_forms.specs.Assign.{is_member}
use Rattle.constraint_forms.specs.Rules.{turned}
use Rattle.cnf_export.specs.Laws.Clauses.{yes_to}
use Rattle.cnf_export.specs.Laws.Encodings.{has, users_who}
use Rattle.cnf_export.specs.Terms.{encoding_in}
use Rattle.cnf_export.proofs.Listing.{listed_none, listed_one}
use Rattle.cnf_export.proofs.terms.Terms.add_members.Goals as goal
use Rattle.cnf_export.proofs.terms.Terms.add_members.Goals.{then-has+in_ok-add_member, else-has}

pub members-preserved : goal.members-preserved
members-preserved c =
    let e = encoding_in c.args.self.now in
    let group = c.args.group.now in
    let f = λ (t : ℕ). map (λ u. yes_to (has e t u)) (users_who e (λ u. e.may_have t u && turned c.args.back e.related c.args.rho u c.args.v)) in
    let below : c.members.t < length group = omega (arith, c.members-test.true, c.limit-limit.ensures.limit, c.limit-limit.ensures.len) in
    elim c.if-has.branch [
      | then-has+in_ok-add_member w ↦
          listed_one (flat_map f) (f c.members.t) (is_member group) c.members.into c.if-has.into c.members.t (length group)
          (λ us. refl) below (sym c.has.ensures.flag ∙ w.if-has.true)
          (w.into-is ∙ w.in_ok-add_member.ensures)
          ∙ c.members.invariant
      | else-has w ↦
          listed_none (flat_map f) (is_member group) c.members.into c.if-has.into c.members.t (length group) below
          (sym c.has.ensures.flag ∙ w.if-has.false) w.into-is
          ∙ c.members.invariant
    ]
