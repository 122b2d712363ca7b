use Rattle.std.proofs.Common.{[], sym, ap, ◌∙◌, arith}
use Rattle.constraint_forms.specs.Assign.{user_at}
use Rattle.constraint_forms.specs.Rules.{is_among, user_onto}
use Rattle.constraint_forms.proofs.Walking.{among_go, among_stop}
use Rattle.constraint_forms.proofs.count.is_user_from.Goals as goal

pub returns-then-is_user : goal.returns-then-is_user
returns-then-is_user c =
    let says = ap (λ o. is_among (user_onto o []) c.args.u) (sym c.at.ensures.user) ∙ sym c.is_user.ensures in
    among_stop (user_at c.args.a.now) c.args.group.now c.members.from c.in-Some.member c.args.u _ c.next.ensures.len c.in-Some.ensures.next
    (says ∙ c.if-is_user.true) c.members.invariant.rest

pub members-preserved : goal.members-preserved
members-preserved c =
    let says = ap (λ o. is_among (user_onto o []) c.args.u) (sym c.at.ensures.user) ∙ sym c.is_user.ensures in
    record {
      below = omega (arith, c.in-Some.ensures.next.within, c.member.view_is);
      rest =
          among_go (user_at c.args.a.now) c.args.group.now c.members.from c.in-Some.member _ c.args.u _ c.next.ensures.len c.in-Some.ensures.next
          c.member.view_is (says ∙ c.if-is_user.false) c.members.invariant.rest;
    }
