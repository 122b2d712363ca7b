use Rattle.std.proofs.Common.{[], ◌||◌, ap, ◌∙◌, arith}
use Rattle.wf_names.specs.UserSets.{has_user}
use Rattle.constraint_forms.specs.Assign.{user_at}
use Rattle.constraint_forms.specs.Rules.{is_among, user_onto}
use Rattle.constraint_forms.proofs.Walking.{put_go}
use Rattle.constraint_forms.proofs.count.users_of.Goals as goal

pub members-preserved : goal.members-preserved
members-preserved c = record {
  below = omega (arith, c.in-Some.ensures.next.within, c.member.view_is);
  rest = λ u h.
      let now = c.put_in.ensures u h ∙ ap (λ o. is_among (user_onto o []) u || has_user c.members.users u) c.at.ensures.user in
      put_go (user_at c.args.a.now) c.args.group.now c.members.from c.in-Some.member _ u _ _ _ c.next.ensures.len c.in-Some.ensures.next
      c.member.view_is now (c.members.invariant.rest u h);
}
