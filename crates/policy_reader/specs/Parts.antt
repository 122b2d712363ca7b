-- What the readings of all tables have in common. Each takes the table and the number that its
-- faults carry.
use Rattle.std.specs.Prelude.{ℕ, ◌==◌, Bool, not, nat_le, nat_eq, List, [], ◌∷◌, ◌++◌, length}
use Rattle.std.specs.Prelude.{Option, None, Some, is_some, option_and_then, option_map, unwrap_or}
use Rattle.std.specs.Prelude.{Ok}
use Rattle.std.specs.List.{list_any}
use Rattle.std.specs.Cmp.Lexicographic.{pointwise}
use Rattle.std.specs.FinSet as set
use Rattle.toml.specs.Data.{Data, string, Items, no_items, item, Members, no_members, member}
use Rattle.toml.specs.Data.{get_member, as_str, as_array, as_table}
use Rattle.wf_names.specs.Names.{is_name}
use Rattle.wf_names.specs.Table.{place_of}
use Rattle.basics.specs.Laws.Pairs.{Pairs}
use Rattle.basics.specs.Laws.Reading.{◌>>=◌, or_fault, check, each}
use Rattle.policy_reader.specs.declared.fault.PolicyPart.{PolicyPart}
use Rattle.policy_reader.specs.declared.fault.PolicyKind.TheVariants as kind
use Rattle.policy_reader.specs.Faults.{Reading, fault, fault_about}

-- the values of an array, in order
abbrev pub items : Items → List Data
items no_items = []
items (item d ds) = d ∷ items ds

-- the keys of a table with their values, in byte order of the keys
abbrev pub entries : Members → List (List ℕ × Data)
entries no_members = []
entries (member key d ms) = (key, d) ∷ entries ms

-- two values that are texts
abbrev pub both_texts : Data → Data → Option (List ℕ × List ℕ)
both_texts (string a) (string b) = Some (a, b)
both_texts _ _ = None

-- the two texts of two items
abbrev pub texts_in : Items → Option (List ℕ × List ℕ)
texts_in (item a (item b no_items)) = both_texts a b
texts_in _ = None

-- the two texts of an array of two texts
abbrev pub two_texts : Data → Option (List ℕ × List ℕ)
two_texts d = option_and_then texts_in (as_array d)

-- what a value says, and what the first of two texts says
abbrev pub said : Data → List ℕ
said (string text) = text
said _ = []

abbrev pub first_said : Data → List ℕ
first_said d = unwrap_or (option_map (λ texts. texts.0) (two_texts d)) []

-- a text is one of `texts`
abbrev pub lists_text : List (List ℕ) → List ℕ → Bool
lists_text texts text = list_any (pointwise nat_eq text) texts

module _ (table : PolicyPart) (index : ℕ) where
  -- the value at a key that has to be there
  unfoldable pub value_at : List ℕ → Members → Reading Data
  value_at key ms = or_fault (get_member key ms) (fault_about kind.Missing table index key)

  unfoldable pub text_in : Data → Reading (List ℕ)
  text_in d = or_fault (as_str d) (fault kind.Shape table index)

  unfoldable pub array_in : Data → Reading Items
  array_in d = or_fault (as_array d) (fault kind.Shape table index)

  unfoldable pub table_in : Data → Reading Members
  table_in d = or_fault (as_table d) (fault kind.Shape table index)

  -- the array at a key that has to be there
  unfoldable pub array_at : List ℕ → Members → Reading Items
  array_at key ms = value_at key ms >>= array_in

  -- the table at a key that has to be there
  unfoldable pub table_at : List ℕ → Members → Reading Members
  table_at key ms = value_at key ms >>= table_in

  -- at most `limit`
  unfoldable pub at_most : ℕ → ℕ → Reading (Unit {0})
  at_most limit count = check (nat_le count limit) (fault kind.TooMany table index)

  -- at least one
  unfoldable pub at_least_one : ℕ → Reading (Unit {0})
  at_least_one count = check (not (count == 0)) (fault kind.Empty table index)

  -- at least one and at most `limit`
  unfoldable pub count_in : ℕ → ℕ → Reading (Unit {0})
  count_in limit count = do
    _ ← at_least_one count
    at_most limit count

  -- the array at a key, of at least one item and at most `limit`
  unfoldable pub items_at : ℕ → List ℕ → Members → Reading Items
  items_at limit key ms = do
    ds ← array_at key ms
    _ ← count_in limit (length (items ds))
    Ok ds

  -- the table at a key, of at least one entry and at most `limit`
  unfoldable pub entries_at : ℕ → List ℕ → Members → Reading Members
  entries_at limit key ms = do
    es ← table_at key ms
    _ ← count_in limit (length (entries es))
    Ok es

  -- a text of a name's form
  unfoldable pub name_in : List ℕ → Reading (Unit {0})
  name_in text = check (is_name text) (fault kind.Name table index)

  -- the name that a value has to be
  unfoldable pub text_name_in : Data → Reading (List ℕ)
  text_name_in d = do
    text ← text_in d
    _ ← name_in text
    Ok text

  -- the number of a name that is declared; a text of another form names nothing
  unfoldable pub number_in : List (List ℕ) → List ℕ → Reading ℕ
  number_in names text = do
    _ ← check (is_name text) (fault kind.Unknown table index)
    or_fault (place_of names text) (fault_about kind.Unknown table index text)

  -- the number of the declared name that a value says
  unfoldable pub named_in : List (List ℕ) → Data → Reading ℕ
  named_in names d = text_in d >>= number_in names

  -- the numbers of two declared names
  unfoldable pub numbers_in : List (List ℕ) → List ℕ × List ℕ → Reading (ℕ × ℕ)
  numbers_in names texts = do
    a ← number_in names texts.0
    b ← number_in names texts.1
    Ok (a, b)

  -- the numbers of the two declared names that a value says
  unfoldable pub named_pair_in : List (List ℕ) → Data → Reading (ℕ × ℕ)
  named_pair_in names d = or_fault (two_texts d) (fault kind.Shape table index) >>= numbers_in names

  -- what is not yet there
  unfoldable pub once : List ℕ → Bool → Reading (Unit {0})
  once text there = check (not there) (fault_about kind.Twice table index text)

  -- the next name of a list of distinct names
  unfoldable pub next_name : List (List ℕ) → Data → Reading (List (List ℕ))
  next_name so_far d = do
    text ← text_name_in d
    _ ← once text (is_some (place_of so_far text))
    Ok (so_far ++ text ∷ [])

  -- the next pair of declared names of a set of pairs
  unfoldable pub next_pair : List (List ℕ) → Pairs → Data → Reading Pairs
  next_pair names so_far d = do
    pair ← named_pair_in names d
    _ ← once (first_said d) (set.contains so_far pair)
    Ok (set.insert so_far pair)

  -- a key that is one of these
  unfoldable pub known_key : List (List ℕ) → Unit {0} → List ℕ × Data → Reading (Unit {0})
  known_key keys _ entry =
      check (lists_text keys entry.0) (fault_about kind.Extra table index entry.0)

  -- no other keys than these; the least one is at fault
  unfoldable pub no_others : List (List ℕ) → Members → Reading (Unit {0})
  no_others keys ms = each (known_key keys) tt (entries ms)
