use Rattle.std.proofs.Common.{◌+◌, sym, ap, ◌∙◌, drop}
use Rattle.refutation_tree.specs.Tree.{no_kids, joined}
use Rattle.refutation_tree.specs.Laws.Views.{branch_onto, kids_of_items}
use Rattle.std.proofs.lemmas.List.{drop_all}
use Rattle.refutation_tree.proofs.ShapeLaws.{kids_of_items-drop, kid_onto-joined, joined-assoc, joined-none}
use Rattle.refutation_tree.proofs.tree.+copy.Goals as goal

pub Branches::copy-branches-preserved : goal.Branches::copy-branches-preserved
Branches::copy-branches-preserved t c =
    let items = c.deref-branch-items.result.now in
    let b = c.in_ok-copy.field-0 in
    let rest = kids_of_items (drop (c.branches.branch-index + 1) items) in
    let next = kids_of_items-drop items c.branches.branch-index c.branch-item.result c.branches-test.true c.branch-item.is in
    let added = kid_onto-joined b.kid b.user no_kids rest ∙ ap (λ x. branch_onto x rest) c.in_ok-copy.ensures ∙ sym next in
    ap (λ k. joined k rest) c.in_ok-push.ensures.ok ∙ joined-assoc c.branches.copies (branch_onto b no_kids) rest ∙ ap (joined c.branches.copies) added ∙
    c.branches.invariant

pub Branches::copy-returns : goal.Branches::copy-returns
Branches::copy-returns t c =
    let items = c.deref-branch-items.result.now in
    let none = ap kids_of_items (drop_all c.branches.branch-index items c.branches-test.false) in
    let whole = sym c.self.view_is ∙ ap kids_of_items (sym c.deref-branch-items.ensures.value) in
    sym (joined-none c.branches.copies) ∙ ap (joined c.branches.copies) (sym none) ∙ c.branches.invariant ∙ sym whole
