-- The rules of a workflow in a policy file. Their faults carry the workflow's number.
use Rattle.std.specs.Prelude.{codes, ℕ, ℤ, pos, negsuc, nat_le, ◌&&◌, if◌then◌else◌, Bool, true}
use Rattle.std.specs.Prelude.{List, Option, [], ◌∷◌, ◌++◌, length, slice_set, None, Some}
use Rattle.std.specs.Prelude.{option_and_then, Ok}
use Rattle.toml.specs.Data.{Data, Members, as_integer, get_member, as_str}
use Rattle.wf_names.specs.declared.limits.TheConstants.{RULE_LIMIT}
use Rattle.user_relations.specs.Laws.Relations.{RelationShape, known_names}
use Rattle.constraint_forms.specs.Assign.{is_member, no_steps}
use Rattle.constraint_forms.specs.Rules.{count_members}
use Rattle.constraint_forms.specs.declared.rule.Rule.{Rule}
use Rattle.constraint_forms.specs.declared.rule.Rule.TheVariants as rule
use Rattle.basics.specs.Laws.Reading.{◌>>=◌, or_fault, each}
use Rattle.policy_reader.specs.declared.fault.PolicyPart.TheVariants.{Flows}
use Rattle.policy_reader.specs.declared.fault.PolicyKind.TheVariants as kind
use Rattle.policy_reader.specs.declared.format.Format.{Format}
use Rattle.policy_reader.specs.declared.form.Form.{Form}
use Rattle.policy_reader.specs.declared.form.Form.TheVariants as form
use Rattle.policy_reader.specs.Forms.{form_keys, form_of_word}
use Rattle.policy_reader.specs.Faults.{Reading, fault}
use Rattle.policy_reader.specs.Parts.{items, value_at, text_in, array_in, table_in, at_most}
use Rattle.policy_reader.specs.Parts.{at_least_one, number_in, named_in, said, once, no_others}

-- the relation that a value names: `same`, `other` or a declared one
abbrev pub relation_in : ℕ → List RelationShape → Data → Reading ℕ
relation_in f relations d = do
  text ← text_in Flows f d
  number_in Flows f (known_names relations) text

-- the step that a value names
unfoldable pub step_in : ℕ → List (List ℕ) → Data → Reading ℕ
step_in f steps d = named_in Flows f steps d

-- the next step of a group
unfoldable pub next_member : ℕ → List (List ℕ) → List Bool → Data → Reading (List Bool)
next_member f steps so_far d = do
  s ← named_in Flows f steps d
  _ ← once Flows f (said d) (is_member so_far s)
  Ok (slice_set so_far s true)

-- the group that a value gives: an array of distinct steps, at least one
unfoldable pub group_in : ℕ → List (List ℕ) → Data → Reading (List Bool)
group_in f steps d = do
  members ← array_in Flows f d
  _ ← at_least_one Flows f (length (items members))
  each (next_member f steps) no_steps (items members)

-- the relation that is named at its key
unfoldable pub relation_at : ℕ → List RelationShape → Members → Reading ℕ
relation_at f relations ms = value_at Flows f (codes "relation") ms >>= relation_in f relations

-- the step that is named at a key
unfoldable pub step_at : ℕ → List (List ℕ) → List ℕ → Members → Reading ℕ
step_at f steps key ms = value_at Flows f key ms >>= step_in f steps

-- the group at its key
unfoldable pub group_at : ℕ → List (List ℕ) → Members → Reading (List Bool)
group_at f steps ms = value_at Flows f (codes "group") ms >>= group_in f steps

-- a key is there
unfoldable pub key_in : ℕ → List ℕ → Members → Reading (Unit {0})
key_in f key ms = value_at Flows f key ms >>= (λ _. Ok tt)

-- a rule of a form has a relation and two further keys, and no others
unfoldable pub keys_in : Form → List ℕ → List ℕ → ℕ → Members → Reading (Unit {0})
keys_in rule_form first second f ms = do
  _ ← key_in f (codes "relation") ms
  _ ← key_in f first ms
  _ ← key_in f second ms
  no_others Flows f (form_keys rule_form) ms

-- a rule over two steps
unfoldable pub pair_in : ℕ → List RelationShape → List (List ℕ) → Members → Reading Rule
pair_in f relations steps ms = do
  _ ← keys_in form.Pair (codes "first") (codes "second") f ms
  rho ← relation_at f relations ms
  s ← step_at f steps (codes "first") ms
  t ← step_at f steps (codes "second") ms
  Ok (rule.Pair rho s t)

-- a relation, a group of steps and a step, in a rule of a form
unfoldable pub grouped_in : Form → ℕ → List RelationShape → List (List ℕ) → Members →
    Reading (ℕ × (List Bool × ℕ))
grouped_in rule_form f relations steps ms = do
  _ ← keys_in rule_form (codes "group") (codes "step") f ms
  rho ← relation_at f relations ms
  s ← step_at f steps (codes "step") ms
  members ← group_at f steps ms
  Ok (rho, (members, s))

-- a number from 1 to another
abbrev pub number_up_to : ℕ → ℤ → Option ℕ
number_up_to most (pos n) = if nat_le 1 n && nat_le n most then Some n else None
number_up_to most (negsuc n) = None

-- the number of users that a value gives, for a group of `most` steps
unfoldable pub limit_in : ℕ → ℕ → Data → Reading ℕ
limit_in f most d = do
  number ← or_fault (as_integer d) (fault kind.Shape Flows f)
  or_fault (number_up_to most number) (fault kind.Range Flows f)

-- the number of users at its key
unfoldable pub limit_at : ℕ → ℕ → Members → Reading ℕ
limit_at f most ms = value_at Flows f (codes "limit") ms >>= limit_in f most

-- a rule of a form has a group and a number of users, and no other keys
unfoldable pub counting_keys_in : Form → ℕ → Members → Reading (Unit {0})
counting_keys_in rule_form f ms = do
  _ ← key_in f (codes "group") ms
  _ ← key_in f (codes "limit") ms
  no_others Flows f (form_keys rule_form) ms

-- a number of users and a group of steps, in a rule of a form
unfoldable pub counting_in : Form → ℕ → List (List ℕ) → Members → Reading (ℕ × List Bool)
counting_in rule_form f steps ms = do
  _ ← counting_keys_in rule_form f ms
  members ← group_at f steps ms
  limit ← limit_at f (count_members members) ms
  Ok (limit, members)

-- the rule of a form
unfoldable pub rule_of_form : Form → ℕ → List RelationShape → List (List ℕ) → Members → Reading Rule
rule_of_form form.Pair f relations steps ms = pair_in f relations steps ms
rule_of_form form.SomeOf f relations steps ms = grouped_in form.SomeOf f relations steps ms >>=
    (λ g. Ok (rule.SomeOf g.0 g.1.0 g.1.1))
rule_of_form form.AllOf f relations steps ms = grouped_in form.AllOf f relations steps ms >>=
    (λ g. Ok (rule.AllOf g.0 g.1.0 g.1.1))
rule_of_form form.SomeTo f relations steps ms = grouped_in form.SomeTo f relations steps ms >>=
    (λ g. Ok (rule.SomeTo g.0 g.1.1 g.1.0))
rule_of_form form.AllTo f relations steps ms = grouped_in form.AllTo f relations steps ms >>=
    (λ g. Ok (rule.AllTo g.0 g.1.1 g.1.0))
rule_of_form form.AtMost f relations steps ms = counting_in form.AtMost f steps ms >>=
    (λ g. Ok (rule.AtMost g.0 g.1))
rule_of_form form.AtLeast f relations steps ms = counting_in form.AtLeast f steps ms >>=
    (λ g. Ok (rule.AtLeast g.0 g.1))

-- the form that a value names, in a file of a format
unfoldable pub form_in : Format → ℕ → Data → Reading Form
form_in format f d =
    or_fault (option_and_then (form_of_word format) (as_str d)) (fault kind.Form Flows f)

-- the rule in a table, by its form
unfoldable pub rule_in : Format → ℕ → List RelationShape → List (List ℕ) → Data → Reading Rule
rule_in format f relations steps d = do
  ms ← table_in Flows f d
  value ← value_at Flows f (codes "form") ms
  form ← form_in format f value
  rule_of_form form f relations steps ms

-- the next rule
unfoldable pub next_rule : Format → ℕ → List RelationShape → List (List ℕ) → List Rule → Data →
    Reading (List Rule)
next_rule format f relations steps so_far d = do
  rule ← rule_in format f relations steps d
  Ok (so_far ++ rule ∷ [])

-- the rules in an array of them
unfoldable pub rules_in : Format → ℕ → List RelationShape → List (List ℕ) → Data →
    Reading (List Rule)
rules_in format f relations steps d = do
  rules ← array_in Flows f d
  _ ← at_most Flows f RULE_LIMIT (length (items rules))
  each (next_rule format f relations steps) [] (items rules)

-- the rules of a workflow's table, where there are any
unfoldable pub rules_of : Format → ℕ → List RelationShape → List (List ℕ) → Members →
    Reading (List Rule)
rules_of format f relations steps ms = elim (get_member (codes "rules") ms) [
  | None ↦ Ok []
  | Some d ↦ rules_in format f relations steps d
]
