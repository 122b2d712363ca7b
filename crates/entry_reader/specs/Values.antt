-- Inside: what the values of trees and replies read as.
use Rattle.std.specs.Prelude.{ℕ, nat_lt, nat_le, nat_eq, Bool, ◌&&◌, List, [], ◌∷◌, length, codes}
use Rattle.std.specs.Prelude.{Option, None, Some, option_map, option_and_then, if◌then◌else◌}
use Rattle.std.specs.List.{find}
use Rattle.std.specs.Cmp.Lexicographic.{pointwise}
use Rattle.serde_json.specs.Data.{Data, null, boolean, number, string, array, object, Items}
use Rattle.serde_json.specs.Data.{no_items, item, Members, no_members, member}
use Rattle.serde_json.specs.Find.{get, as_number, as_u64, as_str, as_array, as_object}
use Rattle.wf_names.specs.Names.{is_name}
use Rattle.wf_names.specs.Table.{place_of}
use Rattle.wf_names.specs.declared.limits.TheConstants.{STEP_LIMIT}
use Rattle.wf_names.specs.declared.states.StepState.{StepState}
use Rattle.wf_names.specs.declared.states.StepState.TheVariants.{Free, Held, Finished}
use Rattle.refutation_tree.specs.Tree.{Shape, Kids, holder, rule, node, no_kids, tree_kid}
use Rattle.refutation_tree.specs.Tree.{twin_kid}
use Rattle.policy_book.specs.Laws.Shapes.{PolicyShape}
use Rattle.policy_book.specs.Policies.{flow_at}

-- ---- parts of values

-- what stands behind the first row with a word
abbrev pub row_read : {X : Type 0} → List (List ℕ × X) → List ℕ → Option X
row_read rows w = option_map (λ r. r.1) (find (λ r. pointwise nat_eq w r.0) rows)

-- the first of two readings, or else the second
abbrev pub or_next : {X : Type 0} → Option X → Option X → Option X
or_next (Some x) other = Some x
or_next None other = other

-- the key and the value of an object with one member
abbrev pub lone : Members → Option (List ℕ × Data)
lone no_members = None
lone (member k d no_members) = Some (k, d)
lone (member k d (member l e ms)) = None

abbrev pub only_member : Data → Option (List ℕ × Data)
only_member d = option_and_then lone (as_object d)

-- what stands at a key
abbrev pub at_key : {X : Type 0} → (Data → Option X) → List ℕ → Data → Option X
at_key read key d = option_and_then read (get key d)

-- an unsigned whole number below a bound
abbrev pub below : ℕ → Data → Option ℕ
below bound d = option_and_then (λ n. if nat_lt n bound then Some n else None)
    (option_and_then as_u64 (as_number d))

-- a text of a name's form
abbrev pub name_read : Data → Option (List ℕ)
name_read d = option_and_then (λ text. if is_name text then Some text else None) (as_str d)

-- the number of a name in a table
abbrev pub number_read : List (List ℕ) → Data → Option ℕ
number_read names d = option_and_then (place_of names) (name_read d)

abbrev pub user_read : PolicyShape → Data → Option ℕ
user_read p d = number_read p.roster.users d

abbrev pub step_read : PolicyShape → ℕ → Data → Option ℕ
step_read p f d = number_read (flow_at p f).flow.steps d

-- each item, in order
abbrev pub each_read : {X : Type 0} → (Data → Option X) → Items → Option (List X)
each_read read no_items = Some []
each_read read (item d ds) =
    option_and_then (λ x. option_map (λ xs. x ∷ xs) (each_read read ds)) (read d)

-- the items of an array, at most as many as a workflow may have steps
abbrev pub few : {X : Type 0} → List X → Option (List X)
few xs = if nat_le (length xs) STEP_LIMIT then Some xs else None

abbrev pub few_read : {X : Type 0} → (Data → Option X) → Data → Option (List X)
few_read read d = option_and_then few (option_and_then (each_read read) (as_array d))

-- ---- trees

-- a leaf: the key of its object, and the value there
abbrev pub leaf_read : PolicyShape → ℕ → List ℕ → Data → Option Shape
leaf_read p f key d =
    if pointwise nat_eq key (codes "holder") then option_map holder (step_read p f d) else
    if pointwise nat_eq key (codes "rule") then option_map rule (below 256 d) else None

-- the user of a leaf that names a twin
abbrev pub twin_at : PolicyShape → List ℕ × Data → Option ℕ
twin_at p m = if pointwise nat_eq m.0 (codes "twin") then user_read p m.1 else None

abbrev pub twin_read : PolicyShape → Data → Option ℕ
twin_read p d = option_and_then (twin_at p) (only_member d)

-- a user's branch before others: with its tree, where it names no twin
abbrev pub with_kid : ℕ → Option ℕ → Option Shape → Option Kids → Option Kids
with_kid u (Some v) tree kids = option_map (twin_kid u v) kids
with_kid u None tree kids = option_and_then (λ t. option_map (tree_kid u t) kids) tree

-- whether two keys are those of a node
abbrev pub are_node_keys : List ℕ → List ℕ → Bool
are_node_keys k l = pointwise nat_eq k (codes "step") && pointwise nat_eq l (codes "users")

abbrev mutual
  pub tree_in : PolicyShape → ℕ → Data → Option Shape
  tree_in p f null = None
  tree_in p f (boolean b) = None
  tree_in p f (number n) = None
  tree_in p f (string s) = None
  tree_in p f (array ds) = None
  tree_in p f (object ms) = tree_at p f ms

  pub tree_at : PolicyShape → ℕ → Members → Option Shape
  tree_at p f no_members = None
  tree_at p f (member k d no_members) = leaf_read p f k d
  tree_at p f (member k d (member l e no_members)) =
      if are_node_keys k l then option_and_then (λ s. option_map (node s) (kids_of p f e))
      (step_read p f d) else None
  tree_at p f (member k d (member l e (member m g ms))) = None

  pub kids_of : PolicyShape → ℕ → Data → Option Kids
  kids_of p f null = None
  kids_of p f (boolean b) = None
  kids_of p f (number n) = None
  kids_of p f (string s) = None
  kids_of p f (array ds) = kids_in p f ds
  kids_of p f (object ms) = None

  pub kids_in : PolicyShape → ℕ → Items → Option Kids
  kids_in p f no_items = Some no_kids
  kids_in p f (item d ds) = kid_in p f d (kids_in p f ds)

  pub kid_in : PolicyShape → ℕ → Data → Option Kids → Option Kids
  kid_in p f null kids = None
  kid_in p f (boolean b) kids = None
  kid_in p f (number n) kids = None
  kid_in p f (string s) kids = None
  kid_in p f (array ds) kids = kid_at p f ds kids
  kid_in p f (object ms) kids = None

  pub kid_at : PolicyShape → ℕ → Items → Option Kids → Option Kids
  kid_at p f no_items kids = None
  kid_at p f (item d no_items) kids = None
  kid_at p f (item d (item e no_items)) kids =
      option_and_then (λ u. with_kid u (twin_read p e) (tree_in p f e) kids) (user_read p d)
  kid_at p f (item d (item e (item g ds))) kids = None

-- the same in steps: the parts of a node, an object with one leaf, a node of its parts, and the
-- parts of a branch
abbrev pub node_at : Members → Option (Data × Data)
node_at no_members = None
node_at (member k d no_members) = None
node_at (member k d (member l e no_members)) = if are_node_keys k l then Some (d, e) else None
node_at (member k d (member l e (member m g ms))) = None

abbrev pub node_parts : Data → Option (Data × Data)
node_parts d = option_and_then node_at (as_object d)

abbrev pub lone_leaf : PolicyShape → ℕ → Data → Option Shape
lone_leaf p f d = option_and_then (λ m. leaf_read p f m.0 m.1) (only_member d)

abbrev pub node_read : PolicyShape → ℕ → Data → Data → Option Shape
node_read p f step users =
    option_and_then (λ s. option_map (node s) (kids_of p f users)) (step_read p f step)

-- the two items of an array
abbrev pub pair_at : Items → Option (Data × Data)
pair_at no_items = None
pair_at (item d no_items) = None
pair_at (item d (item e no_items)) = Some (d, e)
pair_at (item d (item e (item g ds))) = None

abbrev pub pair_parts : Data → Option (Data × Data)
pair_parts d = option_and_then pair_at (as_array d)

-- ---- states of steps

abbrev pub free_state : List ℕ → Option StepState
free_state w = if pointwise nat_eq w (codes "free") then Some Free else None

abbrev pub user_state : List ℕ → ℕ → Option StepState
user_state w u =
    if pointwise nat_eq w (codes "held") then Some (Held u) else
    if pointwise nat_eq w (codes "finished") then Some (Finished u) else None

-- where a step stands
abbrev pub state_read : PolicyShape → Data → Option StepState
state_read p d =
    or_next (option_and_then free_state (as_str d))
    (option_and_then (λ m. option_and_then (user_state m.0) (user_read p m.1)) (only_member d))

-- where a step stands, as a view shows it
abbrev pub seen_at : PolicyShape → Items → Option StepState
seen_at p no_items = None
seen_at p (item d no_items) = option_and_then free_state (as_str d)
seen_at p (item d (item e no_items)) =
    option_and_then (λ w. option_and_then (user_state w) (user_read p e)) (as_str d)
seen_at p (item d (item e (item g ds))) = None

abbrev pub seen_read : PolicyShape → Data → Option StepState
seen_read p d = option_and_then (seen_at p) (as_array d)
