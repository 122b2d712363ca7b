use Rattle.std.proofs.Common.{◌≡◌, [], false, take}
use Rattle.policy_book.specs.Laws.Twins.{is_one_of}
use Rattle.certificate_check.specs.Walks.{tree_users}
use Rattle.certificate_check.proofs.tree.has_tree.Given as goal

abbrev pub invariant-branches : goal.invariant-branches
invariant-branches l = is_one_of (tree_users [] (take l.branch-index l.branches)) l.u ≡ false
