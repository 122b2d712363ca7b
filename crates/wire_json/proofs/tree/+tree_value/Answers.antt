use Rattle.std.proofs.Common.{◌≡◌, ◌++◌, [], ◌∷◌, map, IfOk, sym, ap, subst, ◌∙◌, arith}
use Rattle.serde_json.specs.declared.value.Value.{Value}
use Rattle.serde_json.specs.Data.{Data, array}
use Rattle.serde_json.specs.View.{view, items_of}
use Rattle.serde_json.proofs.Views.{view-Array}
use Rattle.refutation_tree.specs.Tree.{Kids}
use Rattle.refutation_tree.specs.Laws.Views.{branch_onto, kids_of_items, shape_of}
use Rattle.refutation_tree.proofs.Depths.{branches_below}
use Rattle.wire_json.specs.Entries.{user_data}
use Rattle.wire_json.specs.Trees.{branches_data, node_data, tree_data}
use Rattle.wire_json.proofs.Branches.{branch_added, branches_ended, first_branch, if_ok}
use Rattle.wire_json.proofs.tree.+tree_value.Goals as goal

pub tree_value-returns-in_ok-users-in-Step : goal.tree_value-returns-in_ok-users-in-Step
tree_value-returns-in_ok-users-in-Step t c =
    let p = c.args.p.now in
    let f = c.args.f in
    let users = c.in_ok-users-in-Step.ensures ∙ ap (λ kids. array (items_of (branches_data p f kids))) (sym c.as_slice-branches.ensures) in
    let whole = ap (node_data p f c.in-Step.s) users ∙ ap (λ tree. tree_data p f (shape_of tree)) (sym c.in-Step.is) in
    subst (λ (d : Data). IfOk c.node_value.result (λ v. view v ≡ d)) whole c.node_value.ensures

pub tree_value-branches_value-requires : goal.tree_value-branches_value-requires
tree_value-branches_value-requires t c =
    omega (
      arith,
      c.decreases,
      branches_below c.args.t.now c.in-Step.s c.in-Step.branches c.as_slice-branches.result.now c.in-Step.is c.as_slice-branches.ensures,
    )

pub branch_value-returns : goal.branch_value-returns
branch_value-returns t c =
    let p = c.args.p.now in
    let f = c.args.f in
    let b = c.args.branch.now in
    if_ok (λ (v : Value). view v ≡ array (items_of (user_data p b.user ∷ view c.in_ok-kid.kid ∷ [])))
    (λ (v : Value). (rest : Kids) → branches_data p f (branch_onto b rest) ≡ view v ∷ branches_data p f rest) c.pair_value.result
    (λ v is rest. first_branch p f b.user b.kid (view v) rest (is ∙ ap (λ d. array (items_of (user_data p b.user ∷ d ∷ []))) c.in_ok-kid.ensures))
    c.pair_value.ensures

pub branches_value-branches-preserved : goal.branches_value-branches-preserved
branches_value-branches-preserved t c =
    branch_added c.args.p.now c.args.f c.args.branches.now c.branches.branch-index c.branch-item.result _ _ c.in_ok-branch_value.field-0 _
    c.branches-test.true c.branch-item.is c.in_ok-branch_value.ensures c.in_ok-push.ensures.items c.branches.invariant

pub branches_value-branches-init : goal.branches_value-branches-init
branches_value-branches-init t c =
    ap (λ vs. map view vs ++ branches_data c.args.p.now c.args.f (kids_of_items c.args.branches.now)) c.new-values.ensures.items

pub branches_value-returns : goal.branches_value-returns
branches_value-returns t c =
    view-Array c.branches.values
    ∙ ap (λ ds. array (items_of ds))
    (branches_ended c.args.p.now c.args.f c.args.branches.now c.branches.branch-index _ _ c.branches-test.false c.branches.invariant)
