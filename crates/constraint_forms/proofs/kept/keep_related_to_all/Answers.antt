use Rattle.std.proofs.Common.{◌∙◌, ℕ, sym, arith}
use Rattle.basics.proofs.Booleans.{and_both}
use Rattle.constraint_forms.specs.Kept.{are_unrelated_with}
use Rattle.constraint_forms.specs.Rules.{turned}
use Rattle.constraint_forms.proofs.Walking.{any_left, any_left_end}
use Rattle.constraint_forms.proofs.kept.keep_related_to_all.Goals as goal

pub members-preserved : goal.members-preserved
members-preserved g c =
    let p = λ (u y : ℕ). are_unrelated_with (turned c.args.back (g.R.Holds.related c.args.rows.now)) c.args.rho c.args.asked.now.given y c.args.step
    c.args.asked.now.s u in
    record {
      within = omega (arith, c.in-Some.ensures.next.within, c.member.view_is);
      below = λ u h. c.members.invariant.below u ((and_both _ _ (sym (c.keep_related.ensures u) ∙ h)).0);
      kept = λ u. any_left (p u) c.args.group.now c.members.from c.in-Some.member _ _ _ _ c.next.ensures.len c.in-Some.ensures.next
          c.member.view_is (c.keep_related.ensures u) (c.members.invariant.kept u);
    }

pub returns : goal.returns
returns g c = λ u.
    let p = λ (y : ℕ). are_unrelated_with (turned c.args.back (g.R.Holds.related c.args.rows.now)) c.args.rho c.args.asked.now.given y c.args.step
    c.args.asked.now.s u in
    any_left_end p c.args.group.now c.members.from _ _ c.next.ensures.len c.members.invariant.within c.in_default.ensures.next (c.members.invariant.kept u)
