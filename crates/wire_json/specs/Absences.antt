-- What is written of a workflow that has to do without some users: a family of plans, or an absence
-- with a tree that refutes what is left.
use Rattle.std.specs.Prelude.{ℕ, List, [], ◌∷◌, ◌++◌, codes, map}
use Rattle.serde_json.specs.Data.{Data, array, object, no_members, member}
use Rattle.serde_json.specs.View.{items_of}
use Rattle.serde_json.specs.Written.{compact_text}
use Rattle.refutation_tree.specs.Tree.{Shape}
use Rattle.policy_book.specs.Laws.Shapes.{PolicyShape}
use Rattle.wire_json.specs.Entries.{names_data, plan_data, single}
use Rattle.wire_json.specs.Trees.{tree_data}

-- the plans of a family, in order
abbrev pub plans_data : PolicyShape → List (List ℕ) → Data
plans_data p plans = array (items_of (map (plan_data p.roster.users) plans))

abbrev pub family_data : PolicyShape → List (List ℕ) → Data
family_data p plans = single (codes "plans") (plans_data p plans)

-- users who are absent, and a tree over a workflow's steps
abbrev pub absence_data : PolicyShape → ℕ → List ℕ → Shape → Data
absence_data p f absent tree =
    object (member (codes "absent") (names_data p.roster.users absent)
    (member (codes "tree") (tree_data p f tree) no_members))

-- their lines: JSON without blanks, and LF
unfoldable pub family_line : PolicyShape → List (List ℕ) → List ℕ
family_line p plans = compact_text (family_data p plans) ++ 10 ∷ []

unfoldable pub absence_line : PolicyShape → ℕ → List ℕ → Shape → List ℕ
absence_line p f absent tree = compact_text (absence_data p f absent tree) ++ 10 ∷ []
