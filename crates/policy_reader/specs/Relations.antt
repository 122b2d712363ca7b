-- The relations of a policy file.
use Rattle.std.specs.Prelude.{codes, ℕ, ◌+◌, Bool, false, not, nat_eq, ◌&&◌, ◌==◌, List, [], ◌∷◌}
use Rattle.std.specs.Prelude.{◌++◌, length, map, Option, None, Some, is_some, if◌then◌else◌, Ok}
use Rattle.std.specs.Prelude.{Err}
use Rattle.std.specs.FinSet as set
use Rattle.std.specs.Cmp.Lexicographic.{pointwise}
use Rattle.toml.specs.Data.{Data, Members, get_member, as_table}
use Rattle.wf_names.specs.declared.limits.TheConstants.{RELATION_LIMIT, PAIR_LIMIT}
use Rattle.wf_names.specs.Names.{is_name}
use Rattle.user_relations.specs.Laws.Relations.{RelationKind, listed, complement, RelationShape}
use Rattle.basics.specs.Laws.Reading.{◌>>=◌, or_fault, check, each}
use Rattle.policy_reader.specs.declared.fault.PolicyPart.TheVariants.{Relations}
use Rattle.policy_reader.specs.declared.fault.PolicyKind.TheVariants as kind
use Rattle.policy_reader.specs.Faults.{Reading, fault, fault_about}
use Rattle.policy_reader.specs.Parts.{items, entries, text_in, array_in, table_in, at_most, name_in}
use Rattle.policy_reader.specs.Parts.{next_pair, lists_text}

-- the names of relations, in order
abbrev pub names_of : List RelationShape → List (List ℕ)
names_of relations = map (λ r. r.name) relations

-- the number of the first declared relation, after `same` and `other`
abbrev pub first_declared : ℕ
first_declared = 2

-- the name of a relation that every policy has
abbrev pub is_built_in : List ℕ → Bool
is_built_in text = lists_text (codes "same" ∷ codes "other" ∷ []) text

-- a table has one entry
abbrev pub has_one : Members → Bool
has_one ms = length (entries ms) == 1

-- a table whose one key is `complement`
abbrev pub is_complement_table : Members → Bool
is_complement_table ms = has_one ms && is_some (get_member (codes "complement") ms)

-- there is a table and it passes
abbrev pub passes : (Members → Bool) → Option Members → Bool
passes test None = false
passes test (Some ms) = test ms

-- the value is that of a complement
abbrev pub is_complement : Data → Bool
is_complement d = passes is_complement_table (as_table d)

-- the number of the entry with a key and whether it is a complement, where the entries are numbered
-- from n
abbrev pub entry_of : ℕ → List ℕ → List (List ℕ × Data) → Option (ℕ × Bool)
entry_of n key [] = None
entry_of n key (entry ∷ more) = if pointwise nat_eq key entry.0 then Some
    (n, is_complement entry.1) else entry_of (n + 1) key more

-- the pairs of the relation with number n: an array of distinct pairs of users
unfoldable pub listed_in : List (List ℕ) → ℕ → Data → Reading RelationKind
listed_in users n d = do
  pairs ← array_in Relations n d
  _ ← at_most Relations n PAIR_LIMIT (length (items pairs))
  set ← each (next_pair Relations n users) set.empty (items pairs)
  Ok (listed set)

-- the relation whose complement the relation with number n is: one of the table's that is no
-- complement itself
unfoldable pub complement_in : Members → ℕ → Data → Reading RelationKind
complement_in all n d = do
  text ← text_in Relations n d
  _ ← check (is_name text) (fault kind.Unknown Relations n)
  other ← or_fault (entry_of first_declared text (entries all))
      (fault_about kind.Unknown Relations n text)
  _ ← check (not other.1) (fault_about kind.Chain Relations n text)
  Ok (complement other.0)

-- what the relation with number n is: a table with one key, `pairs` or `complement`
unfoldable pub kind_in : List (List ℕ) → Members → ℕ → Members → Reading RelationKind
kind_in users all n ms = do
  _ ← check (has_one ms) (fault kind.Shape Relations n)
  elim (get_member (codes "pairs") ms) [
    | Some d ↦ listed_in users n d
    | None ↦ elim (get_member (codes "complement") ms) [
      | Some d ↦ complement_in all n d
      | None ↦ Err (fault kind.Shape Relations n)
    ]
  ]

-- what a value says that the relation with number n is
unfoldable pub kind_at : List (List ℕ) → Members → ℕ → Data → Reading RelationKind
kind_at users all n d = do
  ms ← table_in Relations n d
  kind_in users all n ms

-- a name that no built-in relation has
unfoldable pub free_name_in : ℕ → List ℕ → Reading (Unit {0})
free_name_in n text = do
  _ ← name_in Relations n text
  check (not (is_built_in text)) (fault_about kind.Reserved Relations n text)

-- the next relation of the table
unfoldable pub next_relation : List (List ℕ) → Members → List RelationShape → List ℕ × Data →
    Reading (List RelationShape)
next_relation users all so_far entry = do
  let n = first_declared + length so_far
  _ ← free_name_in n entry.0
  kind ← kind_at users all n entry.1
  Ok (so_far ++ record { name = entry.0; kind = kind } ∷ [])

-- the relations in a table of them by name
unfoldable pub relations_in : List (List ℕ) → Data → Reading (List RelationShape)
relations_in users d = do
  all ← table_in Relations 0 d
  _ ← at_most Relations 0 RELATION_LIMIT (length (entries all))
  each (next_relation users all) [] (entries all)

-- the relations, where there are any
unfoldable pub relations_of : List (List ℕ) → Members → Reading (List RelationShape)
relations_of users file = elim (get_member (codes "relations") file) [
  | None ↦ Ok []
  | Some d ↦ relations_in users d
]
