use Rattle.std.proofs.Common.{ℕ, sym, ap, ◌∙◌, arith}
use Rattle.constraint_forms.specs.Assign.{user_at}
use Rattle.constraint_forms.specs.Rules.{are_unrelated, turned}
use Rattle.constraint_forms.proofs.Walking.{any_go}
use Rattle.constraint_forms.proofs.evaluate.any_unrelated.Goals as goal

pub members-preserved : goal.members-preserved
members-preserved g c =
    let are = are_unrelated (turned c.args.back (g.H.Holds.related c.args.h.now)) c.args.rho in
    let user = user_at c.args.a.now in
    let s = c.in-Some.member in
    let says = ap (λ o. are o (user c.args.step)) (sym c.at.ensures.user) ∙ ap (are c.at.result) (sym c.at-in-Some.ensures.user) ∙ sym c.is_unrelated.ensures in
    record {
      below = omega (arith, c.in-Some.ensures.next.within, c.member.view_is);
      rest =
          any_go (λ (x : ℕ). are (user x) (user c.args.step)) c.args.group.now c.members.from s _ _ c.next.ensures.len c.in-Some.ensures.next
          c.member.view_is (says ∙ c.if-is_unrelated.false) c.members.invariant.rest;
    }
