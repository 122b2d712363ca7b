use Rattle.std.proofs.Common.{◌||◌, [], take, sym, ap, ◌∙◌, arith}
use Rattle.basics.proofs.Booleans.{or_left}
use Rattle.policy_book.specs.Laws.Twins.{is_one_of}
use Rattle.certificate_check.specs.Walks.{tree_users}
use Rattle.certificate_check.proofs.Trees.{one_of_all, one_of_more}
use Rattle.certificate_check.proofs.tree.has_tree.Goals as goal

pub returns-then-is_tree_of : goal.returns-then-is_tree_of
returns-then-is_tree_of c = grind (arith, one_of_all, one_of_more, or_left)

pub branches-preserved : goal.branches-preserved
branches-preserved c =
    let b = c.branch-item.result in
    let bs = c.args.branches.now in
    let i = c.branches.branch-index in
    one_of_more bs i b c.args.u c.branches-test.true c.branch-item.is ∙
    ap (λ x. x || is_one_of (tree_users [] (take i bs)) c.args.u) (sym c.if-is_tree_of.ensures) ∙ c.branches.invariant
