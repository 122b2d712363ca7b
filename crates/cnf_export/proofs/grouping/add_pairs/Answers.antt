use Rattle.std.proofs.Common.{◌∙◌, ◌<◌, ◌++◌, ◌∷◌, [], length, ap, sym, arith, refl, map}
use Rattle.constraint_forms.specs.Assign.{is_member}
use Rattle.cnf_export.specs.Terms.{pair_group_at}
use Rattle.cnf_export.proofs.Listing.{listed_none, listed_one}
use Rattle.cnf_export.proofs.grouping.add_pairs.Goals as goal
use Rattle.cnf_export.proofs.grouping.add_pairs.Goals.{then-has+in_ok-add_group, else-has}

pub members-preserved : goal.members-preserved
members-preserved c =
    let group = c.args.group.now in
    let f = pair_group_at c.args.back c.args.rho c.args.step in
    let below : c.members.x < length group = omega (arith, c.members-test.true, c.limit-limit.ensures.limit, c.limit-limit.ensures.len) in
    elim c.if-has.branch [
      | then-has+in_ok-add_group w ↦
          listed_one (map f) (f c.members.x ∷ []) (is_member group) c.members.made.items c.if-has.made.items c.members.x (length group)
          (λ us. refl) below (sym c.has.ensures.flag ∙ w.if-has.true)
          (ap (λ v. v.items) w.made-is ∙ w.in_ok-add_group.ensures ∙ ap (λ g. c.members.made.items ++ g ∷ []) w.pair_of.ensures)
          ∙ c.members.invariant
      | else-has w ↦
          listed_none (map f) (is_member group) c.members.made.items c.if-has.made.items c.members.x (length group) below
          (sym c.has.ensures.flag ∙ w.if-has.false) (ap (λ v. v.items) w.made-is)
          ∙ c.members.invariant
    ]
