-- Trees that are too large for an entry.
use Rattle.std.specs.Prelude.{Bool, false, nat_lt}
use Rattle.refutation_tree.specs.Tree.{nodes_of}
use Rattle.refutation_tree.specs.Laws.Views.{shape_of}
use Rattle.refutation_tree.specs.declared.tree.Tree.{Tree}
use Rattle.wf_talk.specs.declared.reply.Reply.{Reply}
use Rattle.wf_talk.specs.declared.reply.Reply.TheVariants as reply
use Rattle.wf_talk.specs.declared.reply.Denial.TheVariants as denial
use Rattle.wf_board.specs.declared.limits.TheConstants.{TREE_LIMIT}

-- a tree has more leaves and nodes than an entry shows
abbrev pub is_large : Tree → Bool
is_large tree = nat_lt TREE_LIMIT (nodes_of (shape_of tree))

-- a reply shows such a tree
abbrev pub shows_large : Reply → Bool
shows_large (reply.Denied (denial.Unsatisfiable f tree)) = is_large tree
shows_large (reply.Denied (denial.Stranded f tree)) = is_large tree
shows_large (reply.Denied (denial.Strands n f tree)) = is_large tree
shows_large given = false
