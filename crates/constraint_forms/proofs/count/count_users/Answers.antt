use Rattle.std.proofs.Common.{◌≡◌, ◌+◌, cond, arith}
use Rattle.constraint_forms.specs.Assign.{user_at}
use Rattle.constraint_forms.proofs.Walking.{at_most_one, users_go}
use Rattle.constraint_forms.proofs.count.count_users.Goals as goal

pub members-preserved : goal.members-preserved
members-preserved c =
    let count = c.members.count in
    let here = c.is_last.result in
    let next = c.in-Some.ensures.next in
    let more : c.if-is_last.count ≡ count + cond here 1 0 = grind arith in
    record {
      below = omega (arith, next.within, c.member.view_is);
      few = omega (arith, more, at_most_one here, c.members.invariant.few, next.from_on, c.member.view_is);
      rest =
          users_go (user_at c.args.a.now) c.args.group.now c.members.from c.in-Some.member _ count _ _ here c.next.ensures.len next
          c.member.view_is c.is_last.ensures more c.members.invariant.rest;
    }
