use Rattle.std.proofs.Common.{◌+◌, drop, ap, ◌∙◌, arith}
use Rattle.std.specs.Prelude.{option_map}
use Rattle.serde_json.specs.View.{view, items_view}
use Rattle.refutation_tree.specs.Tree.{joined}
use Rattle.refutation_tree.specs.Laws.Views.{shape_of}
use Rattle.entry_reader.specs.Values.{kids_in}
use Rattle.entry_reader.proofs.Small.{items_next, items_done, item_below}
use Rattle.entry_reader.proofs.TreeParts.{kids_start, kids_more, kids_end, branch_tree}
use Rattle.entry_reader.proofs.tree.+read_tree.Goals as goal

pub read_branches-items-init : goal.read_branches-items-init
read_branches-items-init t c = rw c.new-branches.ensures (kids_start _)

pub read_branches-read_branch-requires : goal.read_branches-read_branch-requires
read_branches-read_branch-requires t c =
    let below = item_below c.args.items.now c.items.item-index c.item-item.result c.items-test.true c.item-item.is in
    (omega (arith, c.decreases, below), tt)

pub read_branches-items-preserved : goal.read_branches-items-preserved
read_branches-items-preserved t c =
    let p = c.args.p.now in
    let f = c.args.f in
    let vs = c.args.items.now in
    let i = c.items.item-index in
    let v = c.item-item.result in
    let rest = items_view (drop (i + 1) vs) in
    let here = c.items.invariant ∙ ap (λ ds. option_map (joined c.items.branches) (kids_in p f ds)) (items_next vs i v c.items-test.true c.item-item.is) in
    kids_more p f (kids_in p f (items_view vs)) c.items.branches c.push.new.self c.in_ok-read_branch.field-0 (view v) rest here
    (c.in_ok-read_branch.ensures (kids_in p f rest)) c.in_ok-push.ensures.ok

pub read_branches-returns : goal.read_branches-returns
read_branches-returns t c =
    let p = c.args.p.now in
    let f = c.args.f in
    let vs = c.args.items.now in
    kids_end (kids_in p f (items_view vs)) c.items.branches
    (c.items.invariant ∙ ap (λ ds. option_map (joined c.items.branches) (kids_in p f ds)) (items_done vs c.items.item-index c.items-test.false))

pub read_branch-returns-in_ok-tree-in-None : goal.read_branch-returns-in_ok-tree-in-None
read_branch-returns-in_ok-tree-in-None t c rest =
    branch_tree c.args.p.now c.args.f (view c.args.value.now) (view c.in-Some.user.now) (view c.in-Some.kid.now) c.in-Some-user_of.user
    (shape_of c.in_ok-tree-in-None.tree) rest
    c.in-Some.ensures c.in-Some-user_of.ensures c.in-None.ensures c.in_ok-tree-in-None.ensures
