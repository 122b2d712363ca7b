-- Lemmas that functions use together.
use Rattle.entry_reader.proofs.Readings.{each_more, each_none, each_end, each_start}
use Rattle.entry_reader.proofs.Small.{seen_none, seen_free, seen_user}
use Rattle.entry_reader.proofs.PlainLines.{guessed_reply, guessed_place}
use Rattle.entry_reader.proofs.PlainDenials.{unsatisfiable, stranded, taken, order, by_rule, not_held, unknown}
use Rattle.entry_reader.proofs.LinesBack.{has_reply, not_told, not_written}
use Rattle.entry_reader.proofs.TreeParts.{tree_of_node, tree_of_leaf, branch_twin, branch_tree, branch_bad}

-- a list is read item by item
pub ruleset each_item = (each_more, each_none, each_end, each_start)

-- what an item says of a step
pub ruleset seen_states = (seen_none, seen_free, seen_user)

-- a line that is guessed is the line of its place and its reply
pub ruleset guessed_lines = (guessed_reply, guessed_place)

-- denials with a tree
pub ruleset refuting_denials = (unsatisfiable, stranded)

-- denials with anything but a tree
pub ruleset other_denials = (taken, order, by_rule, not_held, unknown)

-- whether a line tells a reply
pub ruleset told_replies = (has_reply, not_told, not_written)

-- a tree, by whether it is a leaf
pub ruleset trees = (tree_of_node, tree_of_leaf)

-- a branch, by what its kid is
pub ruleset branches = (branch_twin, branch_tree, branch_bad)
