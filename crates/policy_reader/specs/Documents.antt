-- The TOML document that a policy is written as.
use Rattle.std.specs.Prelude.{codes, ℕ, zero, suc, ◌+◌, pos, Bool, not, List, [], ◌∷◌, ◌++◌, length}
use Rattle.std.specs.Prelude.{map, Option, None, Some, if◌then◌else◌, slice_index_or}
use Rattle.std.specs.List.{list_any}
use Rattle.std.specs.Ordering.{nat_cmp, match_ordering}
use Rattle.std.specs.Cmp.Lexicographic.{slice_cmp}
use Rattle.std.specs.FinSet as set
use Rattle.toml.specs.Data.{Data, string, integer, array, table, Members, no_members, member}
use Rattle.toml.specs.View.{items_of}
use Rattle.basics.specs.Laws.Pairs.{Pairs}
use Rattle.rbac_state.specs.Laws.Rosters.{RosterShape, has_role}
use Rattle.user_relations.specs.Laws.Relations.{RelationShape, complement_of, pairs_of, known_names}
use Rattle.workflow_schema.specs.Flows.{FlowShape}
use Rattle.constraint_forms.specs.Assign.{is_member}
use Rattle.constraint_forms.specs.declared.rule.Rule.{Rule}
use Rattle.constraint_forms.specs.declared.rule.Rule.TheVariants as rule
use Rattle.policy_book.specs.Laws.Shapes.{PolicyShape, WorkflowShape}
use Rattle.policy_book.specs.Policies.{any_below, flow_at}
use Rattle.policy_reader.specs.declared.form.Form.{Form}
use Rattle.policy_reader.specs.declared.form.Form.TheVariants as form
use Rattle.policy_reader.specs.declared.format.Format.{Format}
use Rattle.policy_reader.specs.declared.format.Format.TheVariants.{First, Second}
use Rattle.policy_reader.specs.Formats.{format_number}
use Rattle.policy_reader.specs.Forms.{form_word, is_first_form}
use Rattle.policy_reader.specs.Relations.{first_declared}

-- a table with one more key, at its place in the order of the keys
abbrev pub with_member : List ℕ → Data → Members → Members
with_member k d no_members = member k d no_members
with_member k d (member l e ms) = match_ordering (slice_cmp nat_cmp k l)
    (member k d (member l e ms)) (member l d ms) (member l e (with_member k d ms))

-- the table of the entries
abbrev pub table_of : List (List ℕ × Data) → Members
table_of [] = no_members
table_of (e ∷ es) = with_member e.0 e.1 (table_of es)

-- the table of the entries with the numbers below n
abbrev pub table_below : ℕ → (ℕ → List ℕ × Data) → Members
table_below zero entry = no_members
table_below (suc n) entry = with_member (entry n).0 (entry n).1 (table_below n entry)

-- the numbers below n that pass, ascending
abbrev pub chosen : ℕ → (ℕ → Bool) → List ℕ
chosen zero test = []
chosen (suc n) test = if test n then chosen n test ++ n ∷ [] else chosen n test

-- the name with a number
abbrev pub name_at : List (List ℕ) → ℕ → List ℕ
name_at names n = slice_index_or names n []

-- an array of the names whose numbers pass
abbrev pub names_where : List (List ℕ) → (ℕ → Bool) → Data
names_where names test =
    array (items_of (map (λ n. string (name_at names n)) (chosen (length names) test)))

-- an array of names
abbrev pub names_array : List (List ℕ) → Data
names_array names = array (items_of (map string names))

-- an array of two names
abbrev pub pair_data : List (List ℕ) → ℕ × ℕ → Data
pair_data names p = array (items_of (string (name_at names p.0) ∷ string (name_at names p.1) ∷ []))

-- the pairs of a set from s to the numbers below n, ascending
abbrev pub row : ℕ → ℕ → Pairs → List (ℕ × ℕ)
row s zero pairs = []
row s (suc n) pairs =
    if set.contains pairs (s, n) then row s n pairs ++ (s, n) ∷ [] else row s n pairs

-- the pairs of a set from the numbers below m to those below n, ascending
abbrev pub rows : ℕ → ℕ → Pairs → List (ℕ × ℕ)
rows zero n pairs = []
rows (suc m) n pairs = rows m n pairs ++ row m n pairs

-- an array of pairs of names
abbrev pub listed_data : List (List ℕ) → List (ℕ × ℕ) → Data
listed_data names pairs = array (items_of (map (pair_data names) pairs))

-- an array of the pairs of a set, by ascending numbers
abbrev pub pairs_data : List (List ℕ) → Pairs → Data
pairs_data names pairs = listed_data names (rows (length names) (length names) pairs)

-- a user with an array of the user's roles
abbrev pub user_entry : RosterShape → ℕ → List ℕ × Data
user_entry roster u = (name_at roster.users u, names_where roster.roles (has_role roster u))

abbrev pub users_data : RosterShape → Data
users_data roster = table (table_below (length roster.users) (user_entry roster))

-- a table of the pairs of a relation, or of the name of the one whose complement it is
unfoldable pub kind_members : List (List ℕ) → List RelationShape → ℕ → Option ℕ → Members
kind_members users relations rho None =
    table_of ((codes "pairs", pairs_data users (pairs_of relations rho)) ∷ [])
kind_members users relations rho (Some n) =
    table_of ((codes "complement", string (name_at (known_names relations) n)) ∷ [])

-- a relation, with the table that says what it is
abbrev pub relation_entry : List (List ℕ) → List RelationShape → ℕ → List ℕ × Data
relation_entry users relations rho = (
  name_at (known_names relations) rho,
  table (kind_members users relations rho (complement_of relations rho)),
)

abbrev pub relations_data : List (List ℕ) → List RelationShape → Data
relations_data users relations = table
    (table_below (length relations) (λ n. relation_entry users relations (first_declared + n)))

-- a step with an array of the roles that it is permitted to
abbrev pub permit_entry : List (List ℕ) → FlowShape → ℕ → List ℕ × Data
permit_entry roles flow s =
    (name_at flow.steps s, names_where roles (λ r. set.contains flow.permits (r, s)))

abbrev pub permits_data : List (List ℕ) → FlowShape → Data
permits_data roles flow = table (table_below (length flow.steps) (permit_entry roles flow))

-- a rule over a group of steps and a step, of this form
unfoldable pub grouped_members : Form → List RelationShape → List (List ℕ) → ℕ → List Bool → ℕ →
    Members
grouped_members rule_form relations steps rho group step = table_of (
    (codes "form", string (form_word rule_form))
    ∷ (codes "group", names_where steps (is_member group))
    ∷ (codes "relation", string (name_at (known_names relations) rho))
    ∷ (codes "step", string (name_at steps step))
    ∷ [])

-- a rule over the number of users of a group, of this form
unfoldable pub counting_members : Form → List (List ℕ) → ℕ → List Bool → Members
counting_members rule_form steps limit group = table_of (
    (codes "form", string (form_word rule_form))
    ∷ (codes "group", names_where steps (is_member group))
    ∷ (codes "limit", integer (pos limit))
    ∷ [])

-- the form of a rule
abbrev pub form_of : Rule → Form
form_of (rule.Pair rho first second) = form.Pair
form_of (rule.SomeOf rho group step) = form.SomeOf
form_of (rule.AllOf rho group step) = form.AllOf
form_of (rule.SomeTo rho step group) = form.SomeTo
form_of (rule.AllTo rho step group) = form.AllTo
form_of (rule.AtMost limit group) = form.AtMost
form_of (rule.AtLeast limit group) = form.AtLeast

-- the first format lacks the form of some rule
abbrev pub needs_second : List Rule → Bool
needs_second rules = list_any (λ r. not (is_first_form (form_of r))) rules

-- the format that a policy is written in: the first one, where it has the forms of all rules
abbrev pub written_format : PolicyShape → Format
written_format p =
    if any_below (length p.flows) (λ f. needs_second (flow_at p f).rules) then Second else First

unfoldable pub rule_members : List RelationShape → List (List ℕ) → Rule → Members
rule_members relations steps (rule.Pair rho first second) = table_of (
    (codes "first", string (name_at steps first))
    ∷ (codes "form", string (form_word form.Pair))
    ∷ (codes "relation", string (name_at (known_names relations) rho))
    ∷ (codes "second", string (name_at steps second))
    ∷ [])
rule_members relations steps (rule.SomeOf rho group step) =
    grouped_members form.SomeOf relations steps rho group step
rule_members relations steps (rule.AllOf rho group step) =
    grouped_members form.AllOf relations steps rho group step
rule_members relations steps (rule.SomeTo rho step group) =
    grouped_members form.SomeTo relations steps rho group step
rule_members relations steps (rule.AllTo rho step group) =
    grouped_members form.AllTo relations steps rho group step
rule_members relations steps (rule.AtMost limit group) =
    counting_members form.AtMost steps limit group
rule_members relations steps (rule.AtLeast limit group) =
    counting_members form.AtLeast steps limit group

abbrev pub rule_data : List RelationShape → List (List ℕ) → Rule → Data
rule_data relations steps r = table (rule_members relations steps r)

abbrev pub rules_data : List RelationShape → List (List ℕ) → List Rule → Data
rules_data relations steps rules = array (items_of (map (rule_data relations steps) rules))

-- a workflow: its steps, order, permissions and rules
unfoldable pub workflow_members : List (List ℕ) → List RelationShape → WorkflowShape → Members
workflow_members roles relations w = table_of (
    (codes "order", pairs_data w.flow.steps w.flow.order)
    ∷ (codes "permit", permits_data roles w.flow)
    ∷ (codes "rules", rules_data relations w.flow.steps w.rules)
    ∷ (codes "steps", names_array w.flow.steps)
    ∷ [])

abbrev pub flow_entry : PolicyShape → ℕ → List ℕ × Data
flow_entry p f =
    (name_at p.flow_names f, table (workflow_members p.roster.roles p.relations (flow_at p f)))

abbrev pub flows_data : PolicyShape → Data
flows_data p = table (table_below (length p.flows) (flow_entry p))

-- the document that a policy is written as
unfoldable pub document_of : PolicyShape → Members
document_of p = table_of (
    (codes "admin", string (name_at p.roster.roles p.admin))
    ∷ (codes "flows", flows_data p)
    ∷ (codes "format", integer (pos (format_number (written_format p))))
    ∷ (codes "relations", relations_data p.roster.users p.relations)
    ∷ (codes "roles", names_array p.roster.roles)
    ∷ (codes "users", users_data p.roster)
    ∷ [])
