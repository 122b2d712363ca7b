use Rattle.std.proofs.Common.{Option, ◌≡◌, ◌+◌, ◌&&◌, ℕ, [], drop, take, Bool, true, List, refl, sym, ap, ◌∙◌, arith}
use denote.Param.Weighed.{at_most}
use Rattle.refutation_tree.specs.declared.tree.Branches.TheDeep.{size-Branch}
use Rattle.refutation_tree.specs.Laws.Views.{kids_of_items, shape_of}
use Rattle.refutation_tree.specs.declared.tree.Branch.{Branch}
use Rattle.refutation_tree.specs.declared.tree.Tree.{Tree}
use Rattle.refutation_tree.specs.declared.tree.Tree.TheVariants.{Step}
use Rattle.refutation_tree.specs.Tree.{Kids}
use Rattle.refutation_tree.proofs.Depths.{branches_below}
use Rattle.policy_book.specs.Laws.Plans.{Problem}
use Rattle.policy_book.specs.Course.{problem_in}
use Rattle.policy_book.specs.Laws.Refuting.{all_refute, authorised_users, have_users, is_unassigned, refutes}
use Rattle.certificate_check.specs.Walks.{tree_users}
use Rattle.certificate_check.proofs.Trees.{refutes_at, branch_user, first_below, passing_below}
use Rattle.certificate_check.proofs.tree.+check.Goals as goal

pub all_refute-branch_refutes-requires : goal.all_refute-branch_refutes-requires
all_refute-branch_refutes-requires t c =
    let p = problem_in c.args.course.now in
    let bs = c.args.branches.now in
    let known = branch_user p c.args.s bs c.requires.users c.branches.i c.branches-test.true c.index-branches-i.result c.index-branches-i.is in
    let below =
    first_below p.users c.branches.i bs (passing_below (p.authorised c.args.s) 0 p.users p.users (omega arith) (kids_of_items bs) c.requires.users) in (
      omega (
        arith,
        c.decreases,
        at_most (λ b. size-Branch b) bs c.branches.i c.index-branches-i.result c.branches-test.true,
        ap (λ b. size-Branch b) c.index-branches-i.is,
      ),
      (c.requires.within, (c.requires.room, (c.requires.free, (below, known)))),
    )

pub all_refute-returns-then-not-branch_refutes : goal.all_refute-returns-then-not-branch_refutes
all_refute-returns-then-not-branch_refutes t c =
    let p = problem_in c.args.course.now in
    let rest = all_refute p c.args.a.now c.args.done.now c.args.s (tree_users [] (take (c.branches.i + 1) c.args.branches.now))
    (kids_of_items (drop (c.branches.i + 1) c.args.branches.now)) in
    ap (λ b. b && rest) c.if-not-branch_refutes.ensures ∙ sym (refutes_at p c.args.a.now c.args.done.now c.args.s c.args.branches.now c.branches.i
    c.index-branches-i.result c.branches-test.true c.index-branches-i.is) ∙ c.branches.invariant

pub all_refute-branches-preserved : goal.all_refute-branches-preserved
all_refute-branches-preserved t c =
    let p = problem_in c.args.course.now in
    let rest = all_refute p c.args.a.now c.args.done.now c.args.s (tree_users [] (take (c.branches.i + 1) c.args.branches.now))
    (kids_of_items (drop (c.branches.i + 1) c.args.branches.now)) in
    ap (λ b. b && rest) c.if-not-branch_refutes.ensures ∙ sym (refutes_at p c.args.a.now c.args.done.now c.args.s c.args.branches.now c.branches.i
    c.index-branches-i.result c.branches-test.true c.index-branches-i.is) ∙ c.branches.invariant

-- a node refutes by three tests
node_refutes : (p : Problem) (assigned : List (Option ℕ)) (done : List Bool) (tree : Tree) (s : ℕ) (kids : Kids) (bs : List Branch) → tree ≡ Step s kids →
    kids ≡ kids_of_items bs → is_unassigned p assigned s ≡ true → (users : Bool) → users ≡ have_users (authorised_users p s) (kids_of_items bs) →
    (users && all_refute p assigned done s [] (kids_of_items bs)) ≡ refutes p assigned done (shape_of tree)
node_refutes p assigned done tree s kids bs is items free users known = grind arith

pub refutes-returns-then-not-have_users : goal.refutes-returns-then-not-have_users
refutes-returns-then-not-have_users t c = grind (arith, node_refutes)

pub refutes-returns-else-not-have_users : goal.refutes-returns-else-not-have_users
refutes-returns-else-not-have_users t c = grind (arith, node_refutes)

pub refutes-all_refute-requires : goal.refutes-all_refute-requires
refutes-all_refute-requires t c = (
  omega (
    arith,
    c.decreases,
    branches_below
        c.args.tree.now c.in-Step.s c.in-Step.branches c.as_slice-branches.result.now c.in-Step.is c.as_slice-branches.ensures,
  ),
  (c.requires, (c.if-not-is_unassigned.ensures.within refl, (sym c.if-not-is_unassigned.ensures.free, sym c.if-not-have_users.ensures))),
)
