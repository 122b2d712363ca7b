-- What is written for what a search found for a workflow: a plan, or a tree that refutes.
use Rattle.std.specs.Prelude.{ℕ, List, [], ◌∷◌, ◌++◌, codes}
use Rattle.serde_json.specs.Data.{Data, object, no_members, member}
use Rattle.serde_json.specs.Written.{compact_text}
use Rattle.refutation_tree.specs.Tree.{Shape}
use Rattle.policy_book.specs.Laws.Shapes.{PolicyShape}
use Rattle.wire_json.specs.Entries.{named, plan_data}
use Rattle.wire_json.specs.Trees.{tree_data}

-- a workflow's name, and a plan for it
abbrev pub plan_found : PolicyShape → ℕ → List ℕ → Data
plan_found p f plan =
    object (member (codes "flow") (named p.flow_names f)
    (member (codes "plan") (plan_data p.roster.users plan) no_members))

-- a workflow's name, and a tree over its steps
abbrev pub tree_found : PolicyShape → ℕ → Shape → Data
tree_found p f tree =
    object (member (codes "flow") (named p.flow_names f)
    (member (codes "tree") (tree_data p f tree) no_members))

-- their lines: JSON without blanks, and LF
unfoldable pub plan_line : PolicyShape → ℕ → List ℕ → List ℕ
plan_line p f plan = compact_text (plan_found p f plan) ++ 10 ∷ []

unfoldable pub tree_line : PolicyShape → ℕ → Shape → List ℕ
tree_line p f tree = compact_text (tree_found p f tree) ++ 10 ∷ []
