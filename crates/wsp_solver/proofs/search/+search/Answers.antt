use Rattle.std.proofs.Common.{◌≡◌, ◌<◌, ℕ, is_some, None, true, not, ◌+◌, ◌&&◌, nat_lt, List, [], Option, sym, ap, subst, ◌∙◌, arith}
use Rattle.std.proofs.lemmas.Bool.{and_from, ltb-true}
use Rattle.constraint_forms.specs.Assign.{is_member, user_at}
use Rattle.refutation_tree.specs.Tree.{joined, no_kids, tree_kid, twin_kid}
use Rattle.refutation_tree.specs.Laws.Views.{shape_of}
use Rattle.policy_book.specs.Laws.Plans.{Problem, AreAssigned, IsWithin, IsValidPlan}
use Rattle.policy_book.specs.Laws.Refuting.{all_refute, authorised_users, have_users, is_unassigned, refutes}
use Rattle.basics.proofs.Booleans.{and_both, or_right}
use Rattle.certificate_check.proofs.Assigned.{not_some}
use Rattle.certificate_check.proofs.Refuted.{assigned_given}
use Rattle.certificate_check.proofs.Trees.{within_given}
use Rattle.certificate_check.specs.Walks.{AreUsersBelow}
use Rattle.wsp_solver.specs.Searches.{AreOfUsersBelow, AreMentionedIn, NoLeafRefutesWithout, free_count}
use Rattle.wsp_solver.specs.Task.{HasSearched, asked}
use Rattle.wsp_solver.proofs.Members.{mentioned_push, mentioned_push_twin}
use Rattle.certificate_check.proofs.Dropped.{unmentioned_step_drops as drops}
use Rattle.wsp_solver.proofs.Searching.{quiet_given, valid_full, valid_without, count_less}
use Rattle.wsp_solver.proofs.Pushes.{below_push, below_push_twin, refute_push, refute_push_twin, users_push, users_push_twin}
use Rattle.wsp_solver.proofs.Nexts.{below_to, users_all, users_skip_to}
use Rattle.wsp_solver.proofs.search.+search.Goals as goal

pub decide-returns-in-None-clause-searched : goal.decide-returns-in-None-clause-searched
decide-returns-in-None-clause-searched t c =
    valid_full (asked c.args.task.now) c.args.a.now c.args.task.now.done.now c.plan_of.result c.rules.ensures.well_formed c.requires.fits.within
    c.requires.quiet c.plan_of.ensures

-- a free step is a step, and has no user
step_known : (p : Problem) (a : List (Option ℕ)) (s : ℕ) → is_unassigned p a s ≡ true → s < p.steps
step_known p a s free = ltb-true s p.steps (and_both (nat_lt s p.steps) (not (is_some (user_at a s))) free).0

step_open : (p : Problem) (a : List (Option ℕ)) (s : ℕ) → is_unassigned p a s ≡ true → user_at a s ≡ None
step_open p a s free = not_some (user_at a s) (and_both (nat_lt s p.steps) (not (is_some (user_at a s))) free).1

pub try_users-know_class-requires-clause-user : goal.try_users-know_class-requires-clause-user
try_users-know_class-requires-clause-user t c = c.authorised_users-row.ensures.known c.in-Some.user c.in-Some.ensures.member

pub try_users-twin_among-requires-clause-user : goal.try_users-twin_among-requires-clause-user
try_users-twin_among-requires-clause-user t c = c.authorised_users-row.ensures.known c.in-Some.user c.in-Some.ensures.member

-- the branches so far are of users below the next one
pub try_users-twin_among-requires-clause-users : goal.try_users-twin_among-requires-clause-users
try_users-twin_among-requires-clause-users t c =
    below_to c.users.from c.in-Some.user c.users.branches c.in-Some.ensures.from_on c.users.invariant.3

pub try_users-try_user-requires : goal.try_users-try_user-requires
try_users-try_user-requires t c =
    let p = asked c.args.task.now in
    let a = c.args.a.now in
    let s = c.args.s in
    let u = c.in-Some.user in
    let next = c.in-Some.ensures in
    let within : u < p.users = c.authorised_users-row.ensures.known u next.member in
    let may : p.authorised s u ≡ true = sym (c.authorised_users-row.ensures.authorised u) ∙ next.member in
    let less = count_less a s u p.steps (omega (arith, c.requires.room, c.with-given.ensures.len)) (step_open p a s c.requires.free)
    (step_known p a s c.requires.free) in
    let same = ap (λ x. free_count x p.steps) c.with-given.ensures.given in (
      omega (arith, c.decreases, less, same),
      (
        record {
          within = subst (IsWithin p) (sym c.with-given.ensures.given) (within_given p a s u c.requires.fits.within c.requires.free within);
          assigned = subst (AreAssigned c.args.task.now.done.now) (sym c.with-given.ensures.given)
              (assigned_given a c.args.task.now.done.now s u c.requires.fits.assigned (step_open p a s c.requires.free));
          crew = c.know_class.ensures;
        },
        subst (λ x. NoLeafRefutesWithout p x c.args.task.now.done.now s) (sym c.with-given.ensures.given)
            (quiet_given p a c.args.task.now.done.now s u (omega (arith, c.requires.room, c.with-given.ensures.len)) may c.requires.quiet),
      ),
    )

pub try_users-returns-in-Plan-clause-searched : goal.try_users-returns-in-Plan-clause-searched
try_users-returns-in-Plan-clause-searched t c =
    let p = asked c.args.task.now in
    let done = c.args.task.now.done.now in
    let found = subst (HasSearched c.args.task.now c.with-given.result) c.in-Plan.is c.in_ok-plan.ensures.searched in
    valid_without p c.args.a.now done c.in-Plan.plan c.args.s c.in-Some.user (step_open p c.args.a.now c.args.s c.requires.free)
    (subst (λ x. IsValidPlan p x done c.in-Plan.plan) c.with-given.ensures.given found)

pub try_users-returns-in-Stopped-clause-searched : goal.try_users-returns-in-Stopped-clause-searched
try_users-returns-in-Stopped-clause-searched t c =
    subst (HasSearched c.args.task.now c.with-given.result) c.in-Stopped.is
    c.in_ok-plan.ensures.searched

pub try_users-returns-then-not-has-clause-searched : goal.try_users-returns-then-not-has-clause-searched
try_users-returns-then-not-has-clause-searched t c =
    let p = asked c.args.task.now in
    let done = c.args.task.now.done.now in
    let a = c.args.a.now in
    let s = c.args.s in
    let kid = c.in-Refuted.kid in
    let found = subst (HasSearched c.args.task.now c.with-given.result) c.in-Refuted.is c.in_ok-plan.ensures.searched in
    let here = subst (λ x. refutes p x done (shape_of kid.tree) ≡ true) c.with-given.ensures.given found.refutes in
    let quiet = found.steps s ∙ sym c.if-not-has.ensures.flag in record {
      refutes = drops p a done s c.in-Some.user (shape_of kid.tree) (omega (arith, c.requires.room, c.with-given.ensures.len))
          (step_open p a s c.requires.free) quiet here;
      steps = found.steps;
    }

pub try_users-users-preserved-in-Some-twin_among : goal.try_users-users-preserved-in-Some-twin_among
try_users-users-preserved-in-Some-twin_among t c =
    let p = asked c.args.task.now in
    let a = c.args.a.now in
    let s = c.args.s in
    let u = c.in-Some.user in
    let next = c.in-Some.ensures in
    let within : u < p.users = c.authorised_users-row.ensures.known u next.member in
    let may : p.authorised s u ≡ true = sym (c.authorised_users-row.ensures.authorised u) ∙ next.member in
    let twin = c.in-Some-twin_among.twin in
    let front = c.users.branches in
    let n = c.user.inside.0 in
    let same : n ≡ u = c.user.view_is in
    let pushed = c.in_ok-push.ensures.ok in
    let so_far = users_skip_to (p.authorised s) c.users.from u p.users front next.from_on (omega (arith, within))
    (λ v on lt. sym (c.authorised_users-row.ensures.authorised v) ∙ next.least v on lt) c.users.invariant.0 in (
      subst (AreOfUsersBelow (p.authorised s) (n + 1) p.users) (sym pushed)
          (subst (λ k. AreOfUsersBelow (p.authorised s) (k + 1) p.users (joined front (twin_kid u twin no_kids))) (sym same)
          (users_push_twin (p.authorised s) u twin p.users front within may so_far)),
      subst (λ k. all_refute p a c.args.task.now.done.now s [] k ≡ true) (sym pushed)
          (refute_push_twin p a c.args.task.now.done.now s u twin front [] c.users.invariant.1 c.in-Some-twin_among.ensures.0 c.in-Some-twin_among.ensures.1),
      subst (λ k. AreMentionedIn p.rules k c.users.steps) (sym pushed) (mentioned_push_twin p.rules front u twin c.users.steps c.users.invariant.2),
      subst (AreUsersBelow (n + 1)) (sym pushed) (below_push_twin (n + 1) u twin
          front (omega (arith, same)) (below_to c.users.from (n + 1) front (omega (arith, next.from_on, same)) c.users.invariant.3)),
      c.know_class.ensures,
      c.users.invariant.5,
      omega (arith, within, same),
    )

pub try_users-users-preserved : goal.try_users-users-preserved
try_users-users-preserved t c =
    let p = asked c.args.task.now in
    let done = c.args.task.now.done.now in
    let a = c.args.a.now in
    let s = c.args.s in
    let u = c.in-Some.user in
    let next = c.in-Some.ensures in
    let within : u < p.users = c.authorised_users-row.ensures.known u next.member in
    let may : p.authorised s u ≡ true = sym (c.authorised_users-row.ensures.authorised u) ∙ next.member in
    let front = c.users.branches in
    let kid = c.in-Refuted.kid in
    let tree = shape_of kid.tree in
    let n = c.user.inside.0 in
    let same : n ≡ u = c.user.view_is in
    let found = subst (HasSearched c.args.task.now c.with-given.result) c.in-Refuted.is c.in_ok-plan.ensures.searched in
    let here = subst (λ x. refutes p x done tree ≡ true) c.with-given.ensures.given found.refutes in
    let said = mentioned_push p.rules front u tree c.users.steps kid.steps c.joined-steps.result c.users.invariant.2 found.steps c.joined-steps.ensures in
    let pushed = c.in_ok-push-in-Refuted.ensures.ok in
    let so_far = users_skip_to (p.authorised s) c.users.from u p.users front next.from_on (omega (arith, within))
    (λ v on lt. sym (c.authorised_users-row.ensures.authorised v) ∙ next.least v on lt) c.users.invariant.0 in (
      subst (AreOfUsersBelow (p.authorised s) (n + 1) p.users) (sym pushed)
          (subst (λ k. AreOfUsersBelow (p.authorised s) (k + 1) p.users (joined front (tree_kid u tree no_kids))) (sym same)
          (users_push (p.authorised s) u p.users front tree within may so_far)),
      subst (λ k. all_refute p a done s [] k ≡ true) (sym pushed) (refute_push p a done s u tree front [] c.users.invariant.1 here),
      subst (λ k. AreMentionedIn p.rules k c.joined-steps.result) (sym pushed) said,
      subst (AreUsersBelow (n + 1)) (sym pushed) (below_push (n + 1) u tree front (omega (arith, same))
          (below_to c.users.from (n + 1) front (omega (arith, next.from_on, same)) c.users.invariant.3)),
      c.try_user.ensures.crew,
      λ x h. c.joined-steps.ensures x ∙ or_right (is_member c.users.steps x) (is_member kid.steps x) h,
      omega (arith, within, same),
    )

pub try_users-returns-clause-searched : goal.try_users-returns-clause-searched
try_users-returns-clause-searched t c =
    let p = asked c.args.task.now in
    let front = c.users.branches in
    let users = users_all (p.authorised c.args.s) c.users.from p.users front c.users.invariant.6
    (λ v on below. sym (c.authorised_users-row.ensures.authorised v) ∙ c.in_default.ensures v on) c.users.invariant.0 in record {
      refutes =
          and_from (is_unassigned p c.args.a.now c.args.s)
          (have_users (authorised_users p c.args.s) front && all_refute p c.args.a.now c.args.task.now.done.now c.args.s [] front) c.requires.free
          (and_from (have_users (authorised_users p c.args.s) front) (all_refute p c.args.a.now c.args.task.now.done.now c.args.s [] front) users
          c.users.invariant.1);
      steps = c.users.invariant.2;
    }

pub try_user-decide-requires : goal.try_user-decide-requires
try_user-decide-requires t c =
    (omega (arith, c.decreases), (c.requires.fits, c.in-None.ensures))
