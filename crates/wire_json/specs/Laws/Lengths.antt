-- How long the texts of trees are.
use Rattle.std.specs.Prelude.{ℕ, ◌+◌, ◌*◌, ◌<◌, ◌≤◌, ◌^◌, length}
use Rattle.serde_json.specs.Written.{compact_text}
use Rattle.wf_names.specs.Table.{AreNames}
use Rattle.refutation_tree.specs.Tree.{Shape, Kids, holder, rule, node, no_kids, tree_kid}
use Rattle.refutation_tree.specs.Tree.{twin_kid, nodes_of}
use Rattle.policy_book.specs.Laws.Shapes.{PolicyShape}
use Rattle.policy_book.specs.Policies.{flow_at}
use Rattle.wire_json.specs.Trees.{tree_data}

abbrev mutual
  -- the rules that a tree names have numbers of one byte
  pub HasSmallRules : Shape → Type 0
  HasSmallRules (holder s) = Unit {0}
  HasSmallRules (rule k) = k < 2 ^ 8
  HasSmallRules (node s kids) = HaveSmallRules kids

  pub HaveSmallRules : Kids → Type 0
  HaveSmallRules no_kids = Unit {0}
  HaveSmallRules (tree_kid u t kids) = HasSmallRules t × HaveSmallRules kids
  HaveSmallRules (twin_kid u v kids) = HaveSmallRules kids

-- the text of a tree has at most 108 bytes for each leaf and node, and 46 less, where the users and
-- the steps of its workflow have names of a name's form
abbrev pub TreeTextsAreShort : Type 0
TreeTextsAreShort =
    (p : PolicyShape) (f : ℕ) (tree : Shape) → AreNames p.roster.users →
    AreNames (flow_at p f).flow.steps → HasSmallRules tree →
    length (compact_text (tree_data p f tree)) + 46 ≤ 108 * nodes_of tree
