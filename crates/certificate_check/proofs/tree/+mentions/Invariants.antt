use Rattle.std.proofs.Common.{◌≡◌, drop}
use Rattle.refutation_tree.specs.Laws.Views.{kids_of_items}
use Rattle.policy_book.specs.Laws.Refuting.{any_mentions}
use Rattle.certificate_check.proofs.tree.+mentions.Given as goal

abbrev pub invariant-any_mentions-branches : goal.invariant-any_mentions-branches
invariant-any_mentions-branches l =
    any_mentions l.rules l.s (kids_of_items (drop l.branch-index l.branches)) ≡ any_mentions l.rules l.s (kids_of_items l.branches)
