use Rattle.std.proofs.Common.{◌+◌, ◌||◌, drop, sym, ap, ◌∙◌, arith}
use Rattle.refutation_tree.proofs.Depths.{branches_below}
use Rattle.refutation_tree.specs.Laws.Views.{kids_of_items}
use Rattle.policy_book.specs.Laws.Refuting.{any_mentions}
use Rattle.certificate_check.proofs.Trees.{mentions_at}
use Rattle.certificate_check.proofs.tree.+mentions.Goals as goal

pub any_mentions-returns-then-branch_mentions : goal.any_mentions-returns-then-branch_mentions
any_mentions-returns-then-branch_mentions t c =
    let rest = any_mentions c.args.rules.now c.args.s (kids_of_items (drop (c.branches.branch-index + 1) c.args.branches.now)) in
    ap (λ b. b || rest) c.if-branch_mentions.ensures ∙
    sym (mentions_at c.args.rules.now c.args.s c.args.branches.now c.branches.branch-index c.branch-item.result c.branches-test.true c.branch-item.is) ∙
    c.branches.invariant

pub any_mentions-branches-preserved : goal.any_mentions-branches-preserved
any_mentions-branches-preserved t c = grind (arith, mentions_at)

pub mentions-returns-in-Step : goal.mentions-returns-in-Step
mentions-returns-in-Step t c = grind arith

pub mentions-any_mentions-requires : goal.mentions-any_mentions-requires
mentions-any_mentions-requires t c =
    omega (arith, c.decreases, branches_below c.args.tree.now _ c.in-Step.branches c.as_slice-branches.result.now c.in-Step.is c.as_slice-branches.ensures)
