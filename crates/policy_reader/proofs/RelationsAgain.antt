-- The relations are read from what they are written as.
use Rattle.std.proofs.Common.{◌≡◌, ℕ, zero, suc, ◌+◌, true, false, nat_eq, List, [], ◌∷◌, ◌++◌, length, map, refl, sym, ap, subst, ◌∙◌, arith, codes, Option}
use Rattle.std.proofs.Common.{Some, option_map, Ok, slice_get}
use Rattle.policy_reader.proofs.Prints.{AllByRecursion, pointwise, nat_list_eq_equiv, slice_get-map, get_or_from_slice_get, length-map, Data, string, table}
use Rattle.policy_reader.proofs.Prints.{Members, no_members, member, get_member, AreNames, RELATION_LIMIT, PAIR_LIMIT, Pairs, RelationKind, listed, complement}
use Rattle.policy_reader.proofs.Prints.{RelationShape, known_names, complement_of, kind_of, has_list, is_listed, AreSoundRelations}
use Rattle.policy_reader.proofs.Prints.{AreOfUsers, Relations, entries, first_declared, names_of, is_built_in, is_complement, entry_of, Ascend, name_at}
use Rattle.policy_reader.proofs.Prints.{pair_data, pairs_data, rows, table_below, relation_entry, relations_data}
use Rattle.std.specs.List.{IsDistinct}
use Rattle.policy_reader.specs.Parts.{array_in, table_in, text_in, name_in}
use Rattle.policy_reader.specs.Relations.{listed_in, complement_in, kind_in, kind_at, free_name_in, next_relation, relations_in, relations_of}
use Rattle.policy_reader.specs.Documents.{kind_members}
use Rattle.policy_reader.proofs.Rows.{pairs_back, pairs_count}
use Rattle.policy_reader.proofs.Readings.{list_back, items_back, upto_map, got_middle, at_most-ok}
use Rattle.policy_reader.proofs.Tabled.{tabled_in_order}

two_more : (i : ℕ) → first_declared + i ≡ suc (suc i)
two_more i = omega arith

all_at : (P : List ℕ → Type 0) (rs : List RelationShape) (i : ℕ) (r : RelationShape) → slice_get rs i ≡ Some r → AllByRecursion P (names_of rs) → P r.name
all_at P [] i r e h = cc
all_at P (x ∷ rs) zero r e h = let same : x ≡ r = cc in subst (λ y. P y.name) same h.0
all_at P (x ∷ rs) (suc i) r e h = all_at P rs i r e h.1

module _ (users : List (List ℕ)) (whole : List RelationShape) where
  abbrev kind_table : RelationKind → Members
  kind_table (listed pairs) = member (codes "pairs") (pairs_data users pairs) no_members
  kind_table (complement m) = member (codes "complement") (string (name_at (known_names whole) m)) no_members

  abbrev entry' : RelationShape → List ℕ × Data
  entry' r = (r.name, table (kind_table r.kind))

  members_by : (rho : ℕ) (kind : RelationKind) → kind_of whole rho ≡ Some kind → kind_members users whole rho (complement_of whole rho) ≡ kind_table kind
  unfolding kind_members
  members_by rho kind e = grind arith

  name_got : (i : ℕ) (r : RelationShape) → slice_get whole i ≡ Some r → slice_get (known_names whole) (suc (suc i)) ≡ Some r.name
  name_got i r e = slice_get-map (λ (x : RelationShape). x.name) whole i ∙ ap (option_map (λ (x : RelationShape). x.name)) e

  name_is : (i : ℕ) (r : RelationShape) → slice_get whole i ≡ Some r → name_at (known_names whole) (suc (suc i)) ≡ r.name
  name_is i r e = get_or_from_slice_get (known_names whole) (suc (suc i)) r.name [] (name_got i r e)

  kind_got : (i : ℕ) (r : RelationShape) → slice_get whole i ≡ Some r → kind_of whole (suc (suc i)) ≡ Some r.kind
  kind_got i r e = ap (option_map (λ x. x.kind)) e

  entry_same : (i : ℕ) (r : RelationShape) → slice_get whole i ≡ Some r → relation_entry users whole (first_declared + i) ≡ entry' r
  entry_same i r e = grind (arith, two_more, name_is, kind_got, members_by)

  -- the entry with a name that stands once
  entry_found : (n : ℕ) (rs : List RelationShape) (i : ℕ) (r : RelationShape) → slice_get rs i ≡ Some r → IsDistinct (pointwise nat_eq) (names_of rs) →
      entry_of n r.name (map entry' rs) ≡ Some (n + i, is_complement (entry' r).1)
  unfolding IsDistinct
  entry_found n [] i r e d = cc
  entry_found n (x ∷ rs) zero r e d =
      let same : x ≡ r = cc in
      let none : n ≡ n + zero = omega arith in
      subst (λ y. entry_of n y.name (map entry' (x ∷ rs)) ≡ Some (n + zero, is_complement (entry' y).1)) same
      (rw (nat_list_eq_equiv.refl x.name) (ap (λ k. Some (k, is_complement (entry' x).1)) none))
  entry_found n (x ∷ rs) (suc i) r e d =
      let apart : pointwise nat_eq r.name x.name ≡ false = nat_list_eq_equiv.symm r.name x.name ∙
      all_at (λ y. pointwise nat_eq x.name y ≡ false) rs i r e d.0 in
      let next : (n + 1) + i ≡ n + suc i = omega arith in
      rw apart (entry_found (n + 1) rs i r e d.1 ∙ ap (λ k. Some (k, is_complement (entry' r).1)) next)

  record IsTarget (m : ℕ) : Type 0 where
    i : ℕ
    r : RelationShape
    place : m ≡ suc (suc i)
    got : slice_get whole i ≡ Some r
    plain : is_complement (entry' r).1 ≡ false

  plain_of : (kind : RelationKind) → has_list (Some kind) ≡ true → is_complement (table (kind_table kind)) ≡ false
  plain_of kind e = grind arith

  target_at : (i : ℕ) (o : Option RelationShape) → slice_get whole i ≡ o → has_list (option_map (λ r. r.kind) o) ≡ true → IsTarget (suc (suc i))
  target_at i o e h = grind (arith, plain_of)

  target_of : (m : ℕ) → is_listed whole m ≡ true → IsTarget m
  target_of m h = grind (arith, target_at)

  module _ (named : AreNames users) (sound : AreSoundRelations whole) (related : AreOfUsers (length users) whole) (known : AreNames (known_names whole)) where
    names_apart : IsDistinct (pointwise nat_eq) (codes "same" ∷ codes "other" ∷ names_of whole) → IsDistinct (pointwise nat_eq) (names_of whole)
    unfolding IsDistinct
    names_apart d = d.1.1

    not_built_in : (i : ℕ) (r : RelationShape) → slice_get whole i ≡ Some r →
        IsDistinct (pointwise nat_eq) (codes "same" ∷ codes "other" ∷ names_of whole) → is_built_in r.name ≡ false
    unfolding IsDistinct
    not_built_in i r e d =
        let one : pointwise nat_eq r.name (codes "same") ≡ false = nat_list_eq_equiv.symm r.name (codes "same") ∙
        all_at (λ y. pointwise nat_eq (codes "same") y ≡ false) whole i r e d.0.1 in
        let two : pointwise nat_eq r.name (codes "other") ≡ false = nat_list_eq_equiv.symm r.name (codes "other") ∙
        all_at (λ y. pointwise nat_eq (codes "other") y ≡ false) whole i r e d.1.0 in
        rw (one, two) refl

    listed_again : (n rho : ℕ) (pairs : Pairs) → kind_of whole rho ≡ Some (listed pairs) → listed_in users n (pairs_data users pairs) ≡ Ok (listed pairs)
    unfolding listed_in array_in
    listed_again n rho pairs e =
        let all = rows (length users) (length users) pairs in
        rw (
          items_back (map (pair_data users) all),
          length-map all (pair_data users),
          at_most-ok Relations n (length all) PAIR_LIMIT
              (omega (arith, pairs_count Relations n users pairs named (related rho pairs e), sound.few rho pairs e)),
          pairs_back Relations n users pairs named (related rho pairs e),
        ) refl

    module _ (again : Members) (are : entries again ≡ map entry' whole) where
      complement_again : (n m : ℕ) → is_listed whole m ≡ true → complement_in again n (string (name_at (known_names whole) m)) ≡ Ok (complement m)
      unfolding complement_in text_in
      complement_again n m h =
          let t = target_of m h in
          let is : name_at (known_names whole) m ≡ t.r.name = ap (name_at (known_names whole)) t.place ∙ name_is t.i t.r t.got in
          let place : first_declared + t.i ≡ m = two_more t.i ∙ sym t.place in
          let found : entry_of first_declared t.r.name (entries again) ≡ Some (m, false) = ap (entry_of first_declared t.r.name) are ∙
          entry_found first_declared whole t.i t.r t.got (names_apart sound.names) ∙ (λ j. Some (place j, t.plain j)) in
          rw (is, known.form (suc (suc t.i)) t.r.name (name_got t.i t.r t.got), found) refl

      kind_again : (n rho : ℕ) (kind : RelationKind) → kind_of whole rho ≡ Some kind → kind_in users again n (kind_table kind) ≡ Ok kind
      unfolding kind_in
      kind_again n rho (listed pairs) e = listed_again n rho pairs e
      kind_again n rho (complement m) e = complement_again n m (sound.complements rho m e)

      step : (before : List RelationShape) (r : RelationShape) (after : List RelationShape) → whole ≡ before ++ r ∷ after → next_relation users again
          before (entry' r) ≡ Ok (before ++ r ∷ [])
      unfolding next_relation free_name_in kind_at name_in table_in
      step before r after e =
          let i = length before in
          let got : slice_get whole i ≡ Some r = ap (λ rs. slice_get rs i) e ∙ got_middle before r after in
          rw (
            known.form (suc (suc i)) r.name (name_got i r got),
            not_built_in i r got sound.names,
            kind_again
                (first_declared + i) (suc (suc i)) r.kind (kind_got i r got),
          ) refl

    in_again : Ascend (names_of whole) → relations_in users (relations_data users whole) ≡ Ok whole
    unfolding relations_in table_in
    in_again ascend =
        let all = table_below (length whole) (λ n. relation_entry users whole (first_declared + n)) in
        let at : (i : ℕ) → name_at (known_names whole) (first_declared + i) ≡ name_at (names_of whole) i = λ i. ap (name_at (known_names whole)) (two_more i) in
        let are : entries all ≡ map entry' whole = tabled_in_order (λ n. relation_entry users whole (first_declared + n)) (names_of whole) (length whole)
        ascend at (omega (arith, length-map whole (λ (r : RelationShape). r.name)))
        ∙ upto_map whole (λ n. relation_entry users whole (first_declared + n)) entry' entry_same in
        rw (are, length-map whole entry', at_most-ok Relations 0 (length whole) RELATION_LIMIT sound.count)
        (list_back (next_relation users all) entry' (λ rs. rs) whole (step all are))

    -- the relations are read from what they are written as
    pub relations_back : (again : Members) → Ascend (names_of whole) → get_member (codes "relations") again ≡ Some (relations_data users whole) →
        relations_of users again ≡ Ok whole
    unfolding relations_of
    relations_back again ascend there = rw (relations_of, there) (in_again ascend)
