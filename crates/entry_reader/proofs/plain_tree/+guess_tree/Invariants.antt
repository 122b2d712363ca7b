use Rattle.std.proofs.Common.{◌+◌, ◌*◌}
use Rattle.entry_reader.specs.Plain.{AreLow}
use Rattle.entry_reader.proofs.plain_tree.+guess_tree.Given as goal

abbrev pub decreases-guess_tree : goal.decreases-guess_tree
decreases-guess_tree l = 4 * l.height

abbrev pub decreases-guess_branches : goal.decreases-guess_branches
decreases-guess_branches l = 4 * l.height + 3

abbrev pub decreases-guess_branch : goal.decreases-guess_branch
decreases-guess_branch l = 4 * l.height + 2

abbrev pub decreases-guess_kid : goal.decreases-guess_kid
decreases-guess_kid l = 4 * l.height + 1

abbrev pub invariant-guess_branches-branches : goal.invariant-guess_branches-branches
invariant-guess_branches-branches l = AreLow l.course.policy.now l.course.number l.height l.branches
