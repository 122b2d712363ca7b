use Rattle.std.proofs.Common.{◌∙◌, ◌||◌, ℕ, ap, arith}
use Rattle.wf_names.specs.UserSets.{has_user}
use Rattle.constraint_forms.specs.Kept.{are_unrelated_with}
use Rattle.constraint_forms.specs.Rules.{turned}
use Rattle.constraint_forms.proofs.Walking.{all_left, all_left_end}
use Rattle.constraint_forms.proofs.kept.keep_related_to_member.Goals as goal

pub members-preserved : goal.members-preserved
members-preserved g c =
    let p = λ (u y : ℕ). are_unrelated_with (turned c.args.back (g.R.Holds.related c.args.rows.now)) c.args.rho c.args.asked.now.given y c.args.step
    c.args.asked.now.s u in
    record {
      within = omega (arith, c.in-Some.ensures.next.within, c.member.view_is);
      kept = λ u.
          let now = c.join.ensures u ∙ ap (λ b. has_user c.members.kept u || b) (c.keep_related.ensures u) in
          all_left (p u) c.args.group.now c.members.from c.in-Some.member _ _ _ _ _ c.next.ensures.len c.in-Some.ensures.next
          c.member.view_is now (c.members.invariant.kept u);
    }

pub returns : goal.returns
returns g c = λ u.
    let p = λ (y : ℕ). are_unrelated_with (turned c.args.back (g.R.Holds.related c.args.rows.now)) c.args.rho c.args.asked.now.given y c.args.step
    c.args.asked.now.s u in
    all_left_end p c.args.group.now c.members.from _ _ _ c.next.ensures.len c.members.invariant.within c.in_default.ensures.next (c.members.invariant.kept u)
