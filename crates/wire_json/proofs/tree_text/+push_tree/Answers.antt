use Rattle.std.proofs.Common.{◌≡◌, ◌++◌, [], ◌∷◌, OnOk, subst, sym, arith}
use Rattle.json.specs.Print.{escape_byte}
use Rattle.serde_json.specs.Data.{array}
use Rattle.serde_json.specs.View.{items_of}
use Rattle.serde_json.specs.Written.{comma_if, compact_text}
use Rattle.refutation_tree.specs.Laws.Views.{shape_of}
use Rattle.refutation_tree.specs.declared.tree.Kid.{Kid}
use Rattle.refutation_tree.specs.declared.tree.Tree.{Tree}
use Rattle.refutation_tree.proofs.Depths.{branches_below}
use Rattle.wire_json.specs.Entries.{user_data}
use Rattle.wire_json.specs.Trees.{kid_data, tree_data}
use Rattle.wire_json.proofs.BranchTexts.{branch_text_added, branch_texts_ended}
use Rattle.wire_json.proofs.Texts.{items_begun}
use Rattle.wire_json.proofs.tree_text.+push_tree.Goals as goal

pub push_tree-push_node-requires : goal.push_tree-push_node-requires
push_tree-push_node-requires t c =
    omega (arith, c.decreases, branches_below c.args.t.now c.in-Step.s c.in-Step.branches c.as_slice.result.now c.in-Step.is c.as_slice.ensures)

pub push_tree-returns-in-Holder : goal.push_tree-returns-in-Holder
unfolding escape_byte
push_tree-returns-in-Holder t c =
    subst (λ (x : Tree). OnOk c.push_step_in.result
    (c.push_step_in.new.out.items ≡ c.args.out.now.items ++ compact_text (tree_data c.args.p.now c.args.f (shape_of x))))
    (sym c.in-Holder.is) c.push_step_in.ensures

pub push_tree-returns-in-Rule : goal.push_tree-returns-in-Rule
unfolding escape_byte
push_tree-returns-in-Rule t c =
    subst (λ (x : Tree). OnOk c.push_rule.result
    (c.push_rule.new.out.items ≡ c.args.out.now.items ++ compact_text (tree_data c.args.p.now c.args.f (shape_of x))))
    (sym c.in-Rule.is) c.push_rule.ensures

pub push_branch-returns-in-Tree : goal.push_branch-returns-in-Tree
unfolding escape_byte
push_branch-returns-in-Tree t c =
    subst (λ (kid : Kid). OnOk c.push_subtree.result (c.push_subtree.new.out.items ≡ c.args.out.now.items ++ (comma_if c.args.later
    ++ compact_text (array (items_of (user_data c.args.p.now c.args.branch.now.user ∷ kid_data c.args.p.now c.args.f kid ∷ []))))))
    (sym c.in-Tree.is) c.push_subtree.ensures

pub push_branches-branches-init : goal.push_branches-branches-init
push_branches-branches-init t c = items_begun _ _ _ c.in_ok-push.ensures

pub push_branches-branches-preserved : goal.push_branches-branches-preserved
push_branches-branches-preserved t c =
    branch_text_added c.args.p.now c.args.f c.args.branches.now c.branches.branch-index c.branch-item.result _ _ _ c.branches.later c.branches-test.true
    c.branch-item.is c.in_ok-push_branch.ensures c.branches.invariant

pub push_branches-returns : goal.push_branches-returns
push_branches-returns t c =
    branch_texts_ended c.args.p.now c.args.f c.args.branches.now c.branches.branch-index _ _ _ c.branches.later c.branches-test.false c.in_ok-push-2.ensures
    c.branches.invariant
