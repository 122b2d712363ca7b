-- The entries of a table that was put together by numbers.
use Rattle.std.proofs.Common.{◌≡◌, ℕ, zero, suc, ◌<◌, ◌≤◌, true, false, ◌||◌, nat_eq, nat_lt, List, [], ◌∷◌, ◌++◌, length, map, Ordering, Less, Equal, Greater}
use Rattle.std.proofs.Common.{nat_cmp, refl, sym, ap, ◌∙◌, arith, IsPermutation}
use Rattle.policy_reader.proofs.Prints.{AllByRecursion, list_any, match_ordering, ordering_reverse, nat_eq_equiv, slice_cmp, nat_list_cmp_total}
use Rattle.policy_reader.proofs.Prints.{slice_cmp-IsAntisymmetric, nat_cmp-IsAntisymmetric, Less-from_sorted, IsDistinct-cons, IsDistinct-IsPermutation}
use Rattle.policy_reader.proofs.Prints.{or_left, or_right, eq_same, eq_above, lt_back, lt_no, Data, Members, no_members, member, entries, Ascend, with_member}
use Rattle.policy_reader.proofs.Prints.{table_below, name_at}
use Rattle.std.specs.List.{IsDistinct}
use Rattle.std.proofs.lemmas.List.Sorted.{IsPermutation-refl, IsPermutation-cons, IsPermutation-trans, IsPermutation-middle, list_any-IsPermutation}
use Rattle.policy_reader.proofs.Readings.{upto}

abbrev pub key_cmp : List ℕ → List ℕ → Ordering
key_cmp k l = slice_cmp nat_cmp k l

each_of : (P : ℕ → Type 0) (ns : List ℕ) → ((m : ℕ) → list_any (nat_eq m) ns ≡ true → P m) → AllByRecursion P ns
each_of P [] h = tt
each_of P (n ∷ ns) h = (h n (or_left (nat_eq n n) _ (eq_same n)), each_of P ns (λ m e. h m (or_right (nat_eq m n) _ e)))

one_more : (m n : ℕ) → (nat_eq m n || nat_lt m n) ≡ nat_lt m (suc n)
one_more m n = grind arith

module _ (entry : ℕ → List ℕ × Data) where
  -- the numbers with one more, by the order of their keys
  abbrev pub placed : ℕ → List ℕ → List ℕ
  placed n [] = n ∷ []
  placed n (m ∷ ms) = match_ordering (key_cmp (entry n).0 (entry m).0) (n ∷ m ∷ ms) (n ∷ ms) (m ∷ placed n ms)

  abbrev pub numbers : ℕ → List ℕ
  numbers zero = []
  numbers (suc n) = placed n (numbers n)

  abbrev members_of : List ℕ → Members
  members_of [] = no_members
  members_of (m ∷ ms) = member (entry m).0 (entry m).1 (members_of ms)

  with_placed : (n : ℕ) (ns : List ℕ) → with_member (entry n).0 (entry n).1 (members_of ns) ≡ members_of (placed n ns)
  with_placed n [] = refl
  with_placed n (m ∷ ms) =
      elim (key_cmp (entry n).0 (entry m).0) as (λ o. key_cmp (entry n).0 (entry m).0 ≡ o
      → match_ordering o (member (entry n).0 (entry n).1 (members_of (m ∷ ms))) (member (entry m).0 (entry n).1 (members_of ms))
      (member (entry m).0 (entry m).1 (with_member (entry n).0 (entry n).1 (members_of ms)))
      ≡ members_of (match_ordering o (n ∷ m ∷ ms) (n ∷ ms) (m ∷ placed n ms))) [
        | Less ↦ λ e. refl
        | Equal ↦ λ e. ap (λ k. member k (entry n).1 (members_of ms)) (sym (slice_cmp-IsAntisymmetric nat_cmp-IsAntisymmetric (entry n).0 (entry m).0 e))
        | Greater ↦ λ e. ap (member (entry m).0 (entry m).1) (with_placed n ms)
      ] refl

  table_is : (n : ℕ) → table_below n entry ≡ members_of (numbers n)
  table_is zero = refl
  table_is (suc n) = ap (with_member (entry n).0 (entry n).1) (table_is n) ∙ with_placed n (numbers n)

  entries_are : (ns : List ℕ) → entries (members_of ns) ≡ map entry ns
  entries_are [] = refl
  entries_are (n ∷ ns) = ap (λ es. entry n ∷ es) (entries_are ns)

  -- the entries of a table, by the order of their keys
  pub tabled : (n : ℕ) → entries (table_below n entry) ≡ map entry (numbers n)
  tabled n = ap entries (table_is n) ∙ entries_are (numbers n)

  -- ---- keys that differ

  abbrev pub Apart : ℕ → ℕ → Type 0
  Apart n m = key_cmp (entry n).0 (entry m).0 ≡ Equal → ⊥

  placed_moved : (n : ℕ) (ns : List ℕ) → AllByRecursion (Apart n) ns → IsPermutation (n ∷ ns) (placed n ns)
  placed_moved n [] h = IsPermutation-refl (n ∷ [])
  placed_moved n (m ∷ ms) h = elim (key_cmp (entry n).0 (entry m).0) as
      (λ o. (o ≡ Equal → ⊥) → IsPermutation (n ∷ m ∷ ms) (match_ordering o (n ∷ m ∷ ms) (n ∷ ms) (m ∷ placed n ms))) [
        | Less ↦ λ no. IsPermutation-refl (n ∷ m ∷ ms)
        | Equal ↦ λ no. absurd (no refl)
        | Greater ↦ λ no. IsPermutation-trans (n ∷ m ∷ ms) (m ∷ n ∷ ms) (m ∷ placed n ms) (IsPermutation-middle (n ∷ []) m ms)
            (IsPermutation-cons m (n ∷ ms) (placed n ms) (placed_moved n ms h.1))
      ] h.0

  module _ (bound : ℕ) (apart : (i j : ℕ) → i < j → j < bound → Apart j i) where
    all_apart : (n : ℕ) → n < bound → ((m : ℕ) → list_any (nat_eq m) (numbers n) ≡ nat_lt m n) → AllByRecursion (Apart n) (numbers n)
    all_apart n lt are = each_of (Apart n) (numbers n) (λ m e. apart m n (lt_back m n (sym (are m) ∙ e)) lt)

    pub numbers_among : (n m : ℕ) → n ≤ bound → list_any (nat_eq m) (numbers n) ≡ nat_lt m n
    numbers_among zero m le = sym (lt_no m 0 (omega arith))
    numbers_among (suc n) m le =
        let moved = placed_moved n (numbers n) (all_apart n (omega (arith, le)) (λ k. numbers_among n k (omega (arith, le)))) in
        sym (list_any-IsPermutation (nat_eq m) (n ∷ numbers n) (placed n (numbers n)) moved) ∙
        ap (λ b. nat_eq m n || b) (numbers_among n m (omega (arith, le))) ∙ one_more m n

    pub numbers_distinct : (n : ℕ) → n ≤ bound → IsDistinct nat_eq (numbers n)
    unfolding IsDistinct
    numbers_distinct zero le = tt
    numbers_distinct (suc n) le =
        let are : (m : ℕ) → list_any (nat_eq m) (numbers n) ≡ nat_lt m n = λ m. numbers_among n m (omega (arith, le)) in
        IsDistinct-IsPermutation nat_eq (λ x y. nat_eq_equiv.symm x y) (n ∷ numbers n) (placed n (numbers n))
        (placed_moved n (numbers n) (all_apart n (omega (arith, le)) are))
        (IsDistinct-cons nat_eq n (numbers n) (each_of (λ m. nat_eq n m ≡ false) (numbers n) (λ m e. eq_above n m (lt_back m n (sym (are m) ∙ e))))
        (numbers_distinct n (omega (arith, le))))

  -- ---- keys that ascend with their numbers

  placed_end : (n : ℕ) (ns : List ℕ) → AllByRecursion (λ m. key_cmp (entry n).0 (entry m).0 ≡ Greater) ns → placed n ns ≡ ns ++ n ∷ []
  placed_end n [] h = refl
  placed_end n (m ∷ ms) h = rw h.0 (ap (λ ns. m ∷ ns) (placed_end n ms h.1))

  module _ (names : List (List ℕ)) (bound : ℕ) (ascend : Ascend names) (keys : (n : ℕ) → (entry n).0 ≡ name_at names n) (within : bound ≤ length names) where
    above : (i j : ℕ) → i < j → j < bound → key_cmp (entry j).0 (entry i).0 ≡ Greater
    above i j lt below = (λ k. key_cmp (keys j k) (keys i k)) ∙ nat_list_cmp_total.antisymm (name_at names j) (name_at names i) ∙
        ap ordering_reverse (Less-from_sorted (slice_cmp nat_cmp) names i j [] ascend lt (omega (arith, below, within)))

    numbers_upto : (n : ℕ) → n ≤ bound → numbers n ≡ upto n
    numbers_upto zero le = refl
    numbers_upto (suc n) le = grind (arith, placed_end, each_of, above, numbers_among, (numbers_upto n (omega (arith, le))))

    -- a table whose keys ascend has its entries in the order of their numbers
    pub tabled_in_order : entries (table_below bound entry) ≡ map entry (upto bound)
    tabled_in_order = tabled bound ∙ ap (map entry) (numbers_upto bound (omega arith))
