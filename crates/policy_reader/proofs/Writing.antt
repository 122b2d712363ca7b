-- Values and tables as they are built.
use Rattle.std.proofs.Common.{◌≡◌, ℕ, suc, ◌+◌, ◌<◌, ◌≤◌, Bool, true, false, List, [], ◌∷◌, ◌++◌, length, map, take, get_or, IsTrue, String, Global, Vec}
use Rattle.std.proofs.Common.{Ordering, string_bytes, refl, sym, ap, ◌∙◌, append_assoc, arith, Result, OnOk, slice_get, Option}
use Rattle.std.proofs.Common.{Some, option_map, zero, inl, inr}
use Rattle.std.specs.FinSet as set
use Rattle.std.specs.Result.{is_err}
use Rattle.policy_reader.proofs.Prints.{All, get_or_from_slice_get, slice_get_past, slice_get_within, AreNames, first_declared, RELATION_LIMIT, Pairs}
use Rattle.policy_reader.proofs.Prints.{RelationShape, RelationKind, complement, kind_of, known_names, has_list, is_listed, complemented, complement_of}
use Rattle.policy_reader.proofs.Prints.{AreSoundRelations, match_ordering, get_or_default, length-map, map-append, take_more, take_all, Data, Members, member}
use Rattle.policy_reader.proofs.Prints.{view}
use Rattle.policy_reader.proofs.Prints.{members_view, with_member, table_below, chosen, name_at, row, rows, string, array, items_of, pair_data}
use Rattle.std.proofs.lemmas.Bool.{cases_lt}
use Rattle.wf_names.specs.Names.{is_name}
use Rattle.wf_names.proofs.Places.{are_names}
use Rattle.std.specs.BTreeMap.{insert_entry}
use Rattle.std.specs.String.{string_cmp}
use Rattle.toml.specs.declared.value.Value.{Value, Array}
use Rattle.toml.proofs.Views.{view-Array}
use Rattle.policy_reader.proofs.Fresh.{Entry}

placed : (o : Ordering) (k : String Global) (v : Value) (e : Entry) (es rest : List Entry) (ms : Members) → members_view rest ≡ ms
    → members_view (match_ordering o ((k, v) ∷ e ∷ es) ((e.0, v) ∷ es) (e ∷ rest))
    ≡ match_ordering o (member (string_bytes k) (view v) (members_view (e ∷ es))) (member (string_bytes e.0) (view v) (members_view es))
    (member (string_bytes e.0) (view e.1) ms)
placed o k v e es rest ms same = grind arith

-- an insert into the map of a table, seen as members
pub insert_view : (es : List Entry) (k : String Global) (v : Value) →
    members_view (insert_entry string_cmp es k v) ≡ with_member (string_bytes k) (view v) (members_view es)
insert_view [] k v = refl
insert_view (e ∷ es) k v = placed (string_cmp k e.0) k v e es _ _ (insert_view es k v)

-- what values say
abbrev pub seen : Vec Value Global → List Data
seen values = map view values.items

-- an array of values, which were written to the last
pub written_to : (ds : ℕ → List Data) (v : Vec Value Global) (n m : ℕ) → map view v.items ≡ ds n → n ≡ m → view (Array v) ≡ array (items_of (ds m))
written_to ds v n m e same = view-Array v ∙ ap (λ xs. array (items_of xs)) (e ∙ ap ds same)

pub all_written : {X : Type 0} (f : X → Data) (v : Vec Value Global) (n : ℕ) (xs : List X) → map view v.items ≡ map f (take n xs) → length xs ≤ n →
    view (Array v) ≡ array (items_of (map f xs))
all_written f v n xs e le = view-Array v ∙ ap (λ ds. array (items_of ds)) (e ∙ ap (map f) (take_all n xs le))

one_more : (n : ℕ) → n + 1 ≡ suc n
one_more n = omega arith

-- the numbers chosen below the next number
pub chosen_more : {Y : Type 0} (f : ℕ → Y) (n : ℕ) (test : ℕ → Bool) → test n ≡ true → map f (chosen (n + 1) test) ≡ map f (chosen n test) ++ f n ∷ []
chosen_more f n test here = rw (one_more n, here) (map-append f (chosen n test) (n ∷ []))

pub chosen_skip : {Y : Type 0} (f : ℕ → Y) (n : ℕ) (test : ℕ → Bool) → test n ≡ false → map f (chosen (n + 1) test) ≡ map f (chosen n test)
chosen_skip f n test not_here = rw (one_more n, not_here) refl

-- an array of the names that are chosen, after the next number
pub names_next : (names : List (List ℕ)) (test : ℕ → Bool) (n : ℕ) (before after : List Data) → test n ≡ true
    → before ≡ map (λ n. string (name_at names n)) (chosen n test) → after ≡ before ++ string (name_at names n) ∷ []
    → after ≡ map (λ n. string (name_at names n)) (chosen (n + 1) test)
names_next names test n before after here same more = grind (arith, chosen_more)

pub names_skip : (names : List (List ℕ)) (test : ℕ → Bool) (n : ℕ) (before after : List Data) → test n ≡ false
    → before ≡ map (λ n. string (name_at names n)) (chosen n test) → after ≡ before → after ≡ map (λ n. string (name_at names n)) (chosen (n + 1) test)
names_skip names test n before after not_here same as_before = grind arith

pub table_more : (n : ℕ) (entry : ℕ → List ℕ × Data) → table_below (n + 1) entry ≡ with_member (entry n).0 (entry n).1 (table_below n entry)
table_more n entry = rw (one_more n) refl

-- one item more under a map
pub map_take_more : {X Y : Type 0} (f : X → Y) (xs : List X) (n : ℕ) (d : X) → n < length xs →
    map f (take (n + 1) xs) ≡ map f (take n xs) ++ f (get_or xs n d) ∷ []
map_take_more f xs n d lt = ap (map f) (take_more xs n d lt) ∙ map-append f (take n xs) (get_or xs n d ∷ [])

pub names_more : (names : List (List ℕ)) (n : ℕ) → n < length names →
    map string (take (n + 1) names) ≡ map string (take n names) ++ string (name_at names n) ∷ []
names_more names n lt = map_take_more string names n [] lt

pub pairs_more : (names : List (List ℕ)) (pairs : List (ℕ × ℕ)) (n : ℕ) → n < length pairs →
    map (pair_data names) (take (n + 1) pairs) ≡ map (pair_data names) (take n pairs) ++ pair_data names (get_or pairs n (0, 0)) ∷ []
pairs_more names pairs n lt = map_take_more (pair_data names) pairs n (0, 0) lt

pub map_take_got : {X Y : Type 0} (f : X → Y) (xs : List X) (n : ℕ) (x : X) → slice_get xs n ≡ Some x → map f (take (n + 1) xs) ≡ map f (take n xs) ++ f x ∷ []
map_take_got f xs n x e = map_take_more f xs n x (slice_get_within xs n x e) ∙ ap (λ y. map f (take n xs) ++ f y ∷ []) (get_or_from_slice_get xs n x x e)

-- the pairs of a set, row by row
pub row_more : {Y : Type 0} (f : ℕ × ℕ → Y) (before : List Y) (s t : ℕ) (pairs : Pairs) → set.contains pairs (s, t) ≡ true
    → before ++ map f (row s (t + 1) pairs) ≡ (before ++ map f (row s t pairs)) ++ f (s, t) ∷ []
row_more f before s t pairs here =
    rw (one_more t, here, map-append f (row s t pairs) ((s, t) ∷ [])) (sym (append_assoc before (map f (row s t pairs)) (f (s, t) ∷ [])))

pub row_skip : {Y : Type 0} (f : ℕ × ℕ → Y) (before : List Y) (s t : ℕ) (pairs : Pairs) → set.contains pairs (s, t) ≡ false →
    before ++ map f (row s (t + 1) pairs) ≡ before ++ map f (row s t pairs)
row_skip f before s t pairs none = rw (one_more t, none) refl

pub rows_more : {Y : Type 0} (f : ℕ × ℕ → Y) (s n : ℕ) (pairs : Pairs) → map f (rows (s + 1) n pairs) ≡ map f (rows s n pairs) ++ map f (row s n pairs)
rows_more f s n pairs = rw (one_more s) (map-append f (rows s n pairs) (row s n pairs))

-- ---- names

pub name_found : (names : List (List ℕ)) (n : ℕ) (name : List ℕ) → slice_get names n ≡ Some name → name_at names n ≡ name
name_found names n name h = get_or_from_slice_get names n name [] h

-- what is true is true where a call succeeds
pub on_ok : {A E : Type 0} (result : Result A E) (P : Type 0) → P → OnOk result P
on_ok result P h = grind arith

-- a call that gave no fault did what it says that it does
pub when_ok : {A E : Type 0} (result : Result A E) (P : Type 0) → is_err result ≡ false → OnOk result P → P
when_ok result P went h = grind arith

-- what holds of each number below the next
pub one_further : (P : ℕ → Type 0) (n : ℕ) → ((m : ℕ) → m < n → P m) → P n → (m : ℕ) → m < n + 1 → P m
one_further P n h here m lt = grind (arith, cases_lt)

-- ---- relations

-- the names of the built-in relations and of the declared ones
pub known_named : (relations : List RelationShape) → AreSoundRelations relations →
    ((n : ℕ) → n < length relations → is_name (name_at (known_names relations) (first_declared + n)) ≡ true) → AreNames (known_names relations)
unfolding is_name
known_named relations sound h = are_names (known_names relations) sound.names all
  where
    all : All (λ name. IsTrue (is_name name)) (known_names relations)
    all zero d lt = refl
    all (suc zero) d lt = refl
    all (suc (suc n)) d lt =
        let same : first_declared + n ≡ suc (suc n) = omega arith in
        ap is_name (get_or_default (known_names relations) (suc (suc n)) d [] lt) ∙ ap (λ k. is_name (name_at (known_names relations) k)) (sym same) ∙
        h n (omega (arith, lt, length-map relations (λ r. r.name)))

pub number_fits : (relations : List RelationShape) (n : ℕ) → AreSoundRelations relations → n < length relations → n < RELATION_LIMIT
number_fits relations n sound lt = omega (arith, sound.count, lt)

complement_kind : (o : Option RelationKind) (n : ℕ) → complemented o ≡ Some n → o ≡ Some (complement n)
complement_kind o n e = grind arith

listed_within : (relations : List RelationShape) (n : ℕ) → is_listed relations n ≡ true → n < length relations + 2
listed_within relations zero e = cc
listed_within relations (suc zero) e = cc
listed_within relations (suc (suc n)) e = elim (cases_lt n (length relations)) [
  | inl lt ↦ omega (arith, lt)
  | inr past ↦ let none = ap (λ o. has_list (option_map (λ (r : RelationShape). r.kind) o)) (slice_get_past relations n past) in let no : true ≡ false =
      sym e ∙ none in cc
]

-- the relation whose complement one is, is there
pub other_within : (relations : List RelationShape) (rho n : ℕ) → AreSoundRelations relations → complement_of relations rho ≡ Some n → n < length relations + 2
other_within relations rho n sound e = listed_within relations n (sound.complements rho n (complement_kind (kind_of relations rho) n e))
