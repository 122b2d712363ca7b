use Rattle.std.proofs.Common.{◌≡◌, ◌<◌, ◌≤◌, ◌+◌, ℕ, Bool, true, false, not, ◌&&◌, nat_lt, List, [], Option, Some, is_some, length, drop, slice_set, sym, ap}
use Rattle.std.proofs.Common.{subst, ◌∙◌, arith}
use Rattle.std.proofs.lemmas.Bool.{ltb-true}
use Rattle.basics.proofs.Booleans.{and_both, or_right}
use Rattle.constraint_forms.specs.Assign.{user_at, is_member}
use Rattle.refutation_tree.specs.Tree.{Shape, Kids, holder, node, no_kids, nodes_of, nodes_of_kids}
use Rattle.refutation_tree.specs.Laws.Views.{kid_onto, kids_of_items, shape_of}
use Rattle.refutation_tree.specs.declared.tree.Kid.{Kid}
use Rattle.refutation_tree.specs.declared.tree.Tree.{Tree}
use Rattle.policy_book.specs.Laws.Lean.{is_lean}
use Rattle.policy_book.specs.Laws.Plans.{Problem, IsWithin}
use Rattle.policy_book.specs.Laws.Refuting.{all_refute, authorised_users, have_users, is_unassigned, refutes}
use Rattle.certificate_check.proofs.Assigned.{not_some}
use Rattle.certificate_check.proofs.Dropped.{unmentioned_step_drops as drops}
use Rattle.certificate_check.proofs.Trees.{branch_user, nodes_within, within_given}
use Rattle.wsp_solver.specs.Searches.{AreMentioned}
use Rattle.wsp_solver.specs.Task.{asked}
use Rattle.wsp_solver.specs.Lean.{IsTrimming}
use Rattle.wsp_solver.proofs.Trimming.{IsTrimmedFront, front_end, front_tree, front_twin, next_users, tree_refutes, twin_is_found}
use Rattle.wsp_solver.proofs.TwinUsers.{earlier_below}
use Rattle.std.proofs.lemmas.Result.{IfOk-weaker}
use Rattle.wsp_solver.specs.declared.leaf.Refutation.{Refutation}
use Rattle.wsp_solver.proofs.lean.+trim.Goals as goal

-- a leaf or a node that refutes is of a step of the workflow
holder_known : (p : Problem) (a : List (Option ℕ)) (done : List Bool) (s : ℕ) → refutes p a done (holder s) ≡ true → s < p.steps
holder_known p a done s h = ltb-true s p.steps (and_both (nat_lt s p.steps) _ h).0

record NodeParts (p : Problem) (a : List (Option ℕ)) (done : List Bool) (s : ℕ) (kids : Kids) : Type 0 where
  step : s < p.steps
  free : is_unassigned p a s ≡ true
  users : have_users (authorised_users p s) kids ≡ true
  each : all_refute p a done s [] kids ≡ true

node_parts : (p : Problem) (a : List (Option ℕ)) (done : List Bool) (s : ℕ) (kids : Kids) → refutes p a done (node s kids) ≡ true → NodeParts p a done s kids
node_parts p a done s kids h =
    let both = and_both (is_unassigned p a s) (have_users (authorised_users p s) kids && all_refute p a done s [] kids) h in
    let rest = and_both (have_users (authorised_users p s) kids) (all_refute p a done s [] kids) both.1 in record {
      step = ltb-true s p.steps (and_both (nat_lt s p.steps) (not (is_some (user_at a s))) both.0).0;
      free = both.0;
      users = rest.0;
      each = rest.1;
    }

pub trim_tree-held_wrongly-requires : goal.trim_tree-held_wrongly-requires
trim_tree-held_wrongly-requires t c =
    let p = asked c.args.task.now in
    let here = subst (λ (tree : Tree). refutes p c.args.a.now c.args.task.now.done.now (shape_of tree) ≡ true) c.in-Holder.is c.requires.refutes in
    omega (arith, holder_known p c.args.a.now c.args.task.now.done.now c.in-Holder.s here, c.step_count.ensures.count, c.step_count.ensures.few)

pub trim_tree-trim_node-requires : goal.trim_tree-trim_node-requires
trim_tree-trim_node-requires t c =
    let p = asked c.args.task.now in
    let kids = c.in-Step.branches in
    let items = c.as_slice-branches.ensures in
    let here = subst (λ (tree : Tree). refutes p c.args.a.now c.args.task.now.done.now (shape_of tree) ≡ true) c.in-Step.is c.requires.refutes in
    let parts = node_parts p c.args.a.now c.args.task.now.done.now c.in-Step.s kids here in
    let nodes = ap (λ (tree : Tree). nodes_of (shape_of tree)) c.in-Step.is in (
      omega (arith, c.decreases, nodes, ap nodes_of_kids items),
      (
        c.requires.within,
        (
          c.requires.crew,
          (
            omega (arith, parts.step, c.step_count.ensures.count, c.step_count.ensures.few),
            (
              parts.free,
              (
                ap (have_users (authorised_users p c.in-Step.s)) (sym items) ∙ parts.users,
                ap (all_refute p c.args.a.now c.args.task.now.done.now c.in-Step.s []) (sym items) ∙ parts.each,
              ),
            ),
          ),
        ),
      ),
    )

pub trim_tree-returns-in-Holder : goal.trim_tree-returns-in-Holder
trim_tree-returns-in-Holder t c =
    let p = asked c.args.task.now in
    let made = c.held_wrongly.ensures in
    let same = made.tree ∙ sym (ap shape_of c.in-Holder.is) in record {
      tree = record {
        refutes = ap (refutes p c.args.a.now c.args.task.now.done.now) same ∙ c.requires.refutes;
        lean = ap (is_lean p c.args.a.now) made.tree;
        few = omega (arith, ap nodes_of same);
      };
      steps = subst (λ x. AreMentioned p.rules x c.held_wrongly.result.steps) (sym made.tree) (made.steps p.rules);
    }

pub trim_node-twin_among-requires-clause-users : goal.trim_node-twin_among-requires-clause-users
trim_node-twin_among-requires-clause-users t c =
    let p = asked c.args.task.now in
    let bs = c.args.branches.now in
    let i = c.branches.branch-index in
    let b = c.branch-item.result in
    let users = next_users p c.args.s bs i b c.branches.kept (node 0 no_kids) c.branches-test.true c.branch-item.is c.branches.invariant.0.users in
    (earlier_below (p.authorised c.args.s) 0 p.users b.user (node 0 no_kids) (kids_of_items (drop (i + 1) bs)) c.branches.kept users).0

pub trim_node-twin_among-requires-clause-user : goal.trim_node-twin_among-requires-clause-user
trim_node-twin_among-requires-clause-user t c =
    branch_user (asked c.args.task.now) c.args.s c.args.branches.now c.requires.users c.branches.branch-index c.branches-test.true
    c.branch-item.result c.branch-item.is

pub trim_node-branches-preserved-in-Some : goal.trim_node-branches-preserved-in-Some
trim_node-branches-preserved-in-Some t c =
    let p = asked c.args.task.now in
    let bs = c.args.branches.now in
    let i = c.branches.branch-index in
    let b = c.branch-item.result in
    let known = branch_user p c.args.s bs c.requires.users i c.branches-test.true b c.branch-item.is in (
      subst (λ k. IsTrimmedFront p c.args.a.now c.args.task.now.done.now c.args.s bs (i + 1) k c.branches.steps) (sym c.in_ok-push.ensures.ok)
          (front_twin p c.args.a.now c.args.task.now.done.now c.args.s bs i b c.branches.kept c.branches.steps c.in-Some.twin
          c.branches-test.true c.branch-item.is known c.in-Some.ensures.0 c.in-Some.ensures.1 c.branches.invariant.0),
      c.branches.invariant.1,
    )

pub trim_node-trim_tree-requires : goal.trim_node-trim_tree-requires
trim_node-trim_tree-requires t c =
    let p = asked c.args.task.now in
    let a = c.args.a.now in
    let bs = c.args.branches.now in
    let i = c.branches.branch-index in
    let b = c.branch-item.result in
    let known = branch_user p c.args.s bs c.requires.users i c.branches-test.true b c.branch-item.is in
    let nodes = ap (λ (k : Kid). nodes_of_kids (kid_onto k b.user no_kids)) c.in-Tree.is in (
      omega (arith, c.decreases, nodes, nodes_within bs i b c.branches-test.true c.branch-item.is),
      (
        subst (IsWithin p) (sym c.with.ensures.given) (within_given p a c.args.s b.user c.requires.within c.requires.free known),
        (
          c.requires.crew,
          ap (λ x. refutes p x c.args.task.now.done.now (shape_of c.in-Tree.tree)) c.with.ensures.given
              ∙ tree_refutes p a c.args.task.now.done.now c.args.s bs i b c.branches.kept c.branches.steps c.in-Tree.tree c.branches-test.true c.branch-item.is
              c.in-Tree.is c.branches.invariant.0,
        ),
      ),
    )

pub trim_node-unreachable-requires : goal.trim_node-unreachable-requires
trim_node-unreachable-requires t c =
    let p = asked c.args.task.now in
    let bs = c.args.branches.now in
    let i = c.branches.branch-index in
    let b = c.branch-item.result in
    let known = branch_user p c.args.s bs c.requires.users i c.branches-test.true b c.branch-item.is in
    twin_is_found p c.args.a.now c.args.task.now.done.now c.args.s bs i b c.branches.kept c.branches.steps c.in-Twin.field-0 c.branches-test.true
    c.branch-item.is
    c.in-Twin.is known c.requires.users c.branches.invariant.0 c.in_default.ensures

-- a trimmed tree that does not mention the step refutes without it
unmentioned : (p : Problem) (a given : List (Option ℕ)) (done : List Bool) (s u : ℕ) (old : Shape) (r : Refutation) → s < length a → given ≡ slice_set a s
    (Some u) → is_unassigned p a s ≡ true → IsTrimming p given done old r → is_member r.steps s ≡ false → refutes p a done (shape_of r.tree) ≡ true
unmentioned p a given done s u old r room is free kid none =
    drops p a done s u (shape_of r.tree) room (not_some (user_at a s) (and_both (nat_lt s p.steps) (not (is_some (user_at a s))) free).1) (kid.steps s ∙ none)
    (ap (λ x. refutes p x done (shape_of r.tree)) (sym is) ∙ kid.tree.refutes)

pub trim_node-trim_tree-requires-then-not-has : goal.trim_node-trim_tree-requires-then-not-has
trim_node-trim_tree-requires-then-not-has t c =
    let p = asked c.args.task.now in
    let a = c.args.a.now in
    let bs = c.args.branches.now in
    let i = c.branches.branch-index in
    let b = c.branch-item.result in
    let kid = c.in_ok-kid-in-Tree in
    let nodes = ap (λ (k : Kid). nodes_of_kids (kid_onto k b.user no_kids)) c.in-Tree.is in (
      omega (arith, c.decreases, nodes, kid.ensures.tree.few, nodes_within bs i b c.branches-test.true c.branch-item.is),
      (
        c.requires.within,
        (
          c.requires.crew,
          unmentioned p a c.with.result c.args.task.now.done.now c.args.s b.user (shape_of c.in-Tree.tree) kid.kid
              (omega (arith, c.requires.room, c.with.ensures.len)) c.with.ensures.given c.requires.free kid.ensures (sym c.if-not-has.ensures.flag),
        ),
      ),
    )

-- a tree trimmed once more is no larger than the node
smaller : (p : Problem) (a : List (Option ℕ)) (done : List Bool) (middle old : Shape) (r : Refutation) → nodes_of middle ≤ nodes_of old →
    IsTrimming p a done middle r → IsTrimming p a done old r
smaller p a done middle old r few trimming = record {
  tree = record { refutes = trimming.tree.refutes; lean = trimming.tree.lean; few = omega (arith, trimming.tree.few, few) };
  steps = trimming.steps;
}

pub trim_node-returns-then-not-has : goal.trim_node-returns-then-not-has
trim_node-returns-then-not-has t c =
    let p = asked c.args.task.now in
    let a = c.args.a.now in
    let bs = c.args.branches.now in
    let i = c.branches.branch-index in
    let b = c.branch-item.result in
    let kid = c.in_ok-kid-in-Tree in
    let nodes = ap (λ (k : Kid). nodes_of_kids (kid_onto k b.user no_kids)) c.in-Tree.is in
    let few : nodes_of (shape_of kid.kid.tree) ≤ nodes_of (node c.args.s (kids_of_items bs)) =
    omega (arith, nodes, kid.ensures.tree.few, nodes_within bs i b c.branches-test.true c.branch-item.is) in
    IfOk-weaker c.trim_tree-then-not-has.result _ _
    (λ r h. smaller p a c.args.task.now.done.now (shape_of kid.kid.tree) (node c.args.s (kids_of_items bs)) r few h)
    c.trim_tree-then-not-has.ensures

pub trim_node-branches-preserved : goal.trim_node-branches-preserved
trim_node-branches-preserved t c =
    let p = asked c.args.task.now in
    let a = c.args.a.now in
    let bs = c.args.branches.now in
    let i = c.branches.branch-index in
    let b = c.branch-item.result in
    let kid = c.in_ok-kid-in-Tree in
    let new = shape_of kid.kid.tree in
    let known = branch_user p c.args.s bs c.requires.users i c.branches-test.true b c.branch-item.is in (
      subst (λ k. IsTrimmedFront p a c.args.task.now.done.now c.args.s bs (i + 1) k c.joined-steps.result) (sym c.in_ok-push-in-Tree.ensures.ok)
          (front_tree p a c.args.task.now.done.now c.args.s bs i b c.branches.kept c.branches.steps kid.kid.steps c.joined-steps.result c.in-Tree.tree new
          c.branches-test.true c.branch-item.is known c.in-Tree.is
          (ap (λ x. refutes p x c.args.task.now.done.now new) (sym c.with.ensures.given) ∙ kid.ensures.tree.refutes)
          (ap (λ x. is_lean p x new) (sym c.with.ensures.given) ∙ kid.ensures.tree.lean)
          (kid.ensures.steps c.args.s ∙ sym c.if-not-has.ensures.flag) c.in_default.ensures kid.ensures.tree.few kid.ensures.steps c.joined-steps.ensures
          c.branches.invariant.0),
      λ x h. c.joined-steps.ensures x ∙ or_right (is_member c.branches.steps x) (is_member kid.kid.steps x) h,
    )

pub trim_node-returns : goal.trim_node-returns
trim_node-returns t c =
    let p = asked c.args.task.now in
    let ended = front_end p c.args.a.now c.args.task.now.done.now c.args.s c.args.branches.now c.branches.branch-index c.branches.kept c.branches.steps
    c.branches-test.false c.requires.free c.branches.invariant.0 in record {
      tree = record { refutes = ended.refutes; lean = ended.lean; few = ended.few };
      steps = ended.said;
    }
