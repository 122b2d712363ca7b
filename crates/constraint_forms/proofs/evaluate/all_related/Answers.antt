use Rattle.std.proofs.Common.{ℕ, sym, ap, ◌∙◌, arith}
use Rattle.constraint_forms.specs.Assign.{planned}
use Rattle.constraint_forms.specs.Rules.{turned}
use Rattle.constraint_forms.proofs.Walking.{all_go}
use Rattle.constraint_forms.proofs.evaluate.all_related.Goals as goal

pub members-preserved : goal.members-preserved
members-preserved g c =
    let related = turned c.args.back (g.H.Holds.related c.args.h.now) c.args.rho in
    let s = c.in-Some.member in
    let says = ap (λ u. related u c.args.v) (sym c.at.ensures) ∙ sym c.is_related.ensures in
    record {
      below = omega (arith, c.in-Some.ensures.next.within, c.member.view_is);
      rest =
          all_go (λ (x : ℕ). related (planned c.args.plan.now x) c.args.v) c.args.group.now c.members.from s _ _ c.next.ensures.len c.in-Some.ensures.next
          c.member.view_is (says ∙ c.if-not-is_related.false) c.members.invariant.rest;
    }
