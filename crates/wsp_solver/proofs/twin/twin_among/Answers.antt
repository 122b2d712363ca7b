use Rattle.std.proofs.Common.{◌≡◌, ◌+◌, ◌||◌, [], take, sym, ap, subst, ◌∙◌, arith}
use Rattle.std.proofs.lemmas.List.{take_all}
use Rattle.refutation_tree.specs.Tree.{Kids}
use Rattle.policy_book.specs.Course.{problem_in}
use Rattle.policy_book.specs.Laws.Twins.{has_twin, is_one_of}
use Rattle.basics.proofs.Booleans.{eq_back, or_left}
use Rattle.certificate_check.specs.Walks.{AreUsersBelow, tree_users, kid_user_onto}
use Rattle.certificate_check.proofs.Trees.{one_of_all, one_of_more, tree_users-more, user_below}
use Rattle.wsp_solver.specs.Crews.{IsFirstTwin}
use Rattle.wsp_solver.specs.Lean.{kid_users}
use Rattle.wsp_solver.proofs.Crews.{busy_alone}
use Rattle.wsp_solver.proofs.TwinUsers.{first_alone, kid_user_below, kid_users-items, twin_here, twin_onto}
use Rattle.wsp_solver.proofs.twin.twin_among.Goals as goal

pub is_twin_branch-requires-clause-first : goal.is_twin_branch-requires-clause-first
is_twin_branch-requires-clause-first c =
    let bs = c.as_slice-items.result.now in
    let low = user_below c.args.u bs c.branches.branch-index c.branches-test.true c.branch-item.result c.branch-item.is
    (subst (λ (k : Kids). AreUsersBelow c.args.u k) c.as_slice-items.ensures c.requires.users) in
    omega (arith, low, c.requires.user)

pub returns-then-is_twin_branch : goal.returns-then-is_twin_branch
returns-then-is_twin_branch c =
    let p = problem_in c.args.course.now in
    let bs = c.as_slice-items.result.now in
    let i = c.branches.branch-index in
    let b = c.branch-item.result in
    let here = twin_here p c.args.a.now c.args.u b.kid b.user (sym c.if-is_twin_branch.ensures) in
    let among = one_of_all (i + 1) bs b.user (one_of_more bs i b b.user c.branches-test.true c.branch-item.is ∙
    or_left (is_one_of (kid_user_onto b.kid b.user []) b.user) (is_one_of (tree_users [] (take i bs)) b.user) here.0) in
    (ap (λ users. is_one_of users b.user) (ap (kid_users []) c.as_slice-items.ensures ∙ kid_users-items bs []) ∙ among, here.1)

pub branches-preserved : goal.branches-preserved
branches-preserved c =
    let p = problem_in c.args.course.now in
    let bs = c.as_slice-items.result.now in
    let i = c.branches.branch-index in
    let b = c.branch-item.result in
    ap (has_twin p c.args.a.now c.args.u) (tree_users-more bs i b c.branches-test.true c.branch-item.is)
    ∙ twin_onto p c.args.a.now c.args.u b.kid b.user (tree_users [] (take i bs))
    ∙ ap (λ x. x || has_twin p c.args.a.now c.args.u (tree_users [] (take i bs))) (sym c.if-is_twin_branch.ensures) ∙ c.branches.invariant

pub returns : goal.returns
returns c =
    let p = problem_in c.args.course.now in
    let bs = c.as_slice-items.result.now in
    let all : take c.branches.branch-index bs ≡ bs = take_all c.branches.branch-index bs c.branches-test.false in
    ap (has_twin p c.args.a.now c.args.u) (ap (kid_users []) c.as_slice-items.ensures ∙ kid_users-items bs [] ∙ ap (tree_users []) (sym all)) ∙
    c.branches.invariant

pub returns-then-not-has_no_step : goal.returns-then-not-has_no_step
returns-then-not-has_no_step c =
    busy_alone (problem_in c.args.course.now) c.args.a.now c.args.u (kid_users [] c.args.branches.now) (sym c.if-not-has_no_step.ensures)

pub returns-then-eq : goal.returns-then-eq
returns-then-eq c =
    let p = problem_in c.args.course.now in
    first_alone p c.args.a.now c.args.u (kid_users [] c.args.branches.now)
    (subst (IsFirstTwin p c.args.u) (eq_back c.first_twin.result c.args.u (sym c.if-eq.ensures)) c.first_twin.ensures)
    (λ w h. kid_user_below c.args.u c.args.branches.now w c.requires.users h)
