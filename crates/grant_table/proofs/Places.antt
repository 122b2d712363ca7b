-- Where the row with a number stands in ascending rows.
use Rattle.std.proofs.Common.{◌≡◌, ℕ, zero, suc, ◌+◌, ◌<◌, ◌≤◌, Bool, true, false, cond, nat_lt, nat_le, List, [], ◌∷◌, length, drop, get_or, slice_index_or}
use Rattle.std.proofs.Common.{slice_get, slice_set, Option, None, Some, refl, ap, arith}
use Rattle.std.specs.List.{prefix_len, AllWithin}
use Rattle.std.specs.List.Sorted.{IsPartitionedBy}
use Rattle.std.proofs.Math.Seq.{drop-cons}
use Rattle.wf_names.specs.States.{is_live}
use Rattle.grant_table.specs.declared.rows.Row.{Row}
use Rattle.grant_table.specs.Cases.{row_at, change_row, next_open}
use Rattle.grant_table.specs.Kept.{AscendFrom, IsRowPlace}
use Rattle.basics.proofs.Booleans.{eq_above, eq_below, eq_is, lt_back, lt_back_no}

-- the place at which a test turns is the length of the front part that passes
pub prefix_is : {X : Type 0} (p : X → Bool) (xs : List X) (i : ℕ) → i ≤ length xs → AllWithin (λ y. p y ≡ true) xs 0 i → AllWithin
    (λ y. p y ≡ false) xs i (length xs) → i ≡ prefix_len p xs
prefix_is p [] i h low high = omega arith
prefix_is p (x ∷ xs) zero h low high = rw (high 0 x (omega arith) (omega arith)) refl
prefix_is p (x ∷ xs) (suc i) h low high =
    rw (low 0 x (omega arith) (omega arith))
    (omega (
      arith,
      prefix_is p xs i (omega arith) (λ k d a b. low (suc k) d (omega arith) (omega arith)) (λ k d a b. high (suc k) d (omega arith) (omega arith)),
    ))

pub low_bound : (low : ℕ) (rows : List Row) (j : ℕ) (d : Row) → AscendFrom low rows → j < length rows → low ≤ (slice_index_or rows j d).number
low_bound low [] j d order h = absurd (omega arith)
low_bound low (r ∷ rs) zero d order h = order.0
low_bound low (r ∷ rs) (suc j) d order h = omega (arith, order.0, low_bound (r.number + 1) rs j d order.1 (omega arith))

-- ascending rows may be searched
pub partitioned : (low n : ℕ) (rows : List Row) → AscendFrom low rows → IsPartitionedBy (λ (r : Row). nat_lt r.number n) rows
partitioned low n [] order i j d up h later = absurd (omega arith)
partitioned low n (r ∷ rs) order zero zero d up h later = later
partitioned low n (r ∷ rs) order zero (suc j) d up h later = grind (arith, low_bound (r.number + 1) rs j d order.1 (omega arith))
partitioned low n (r ∷ rs) order (suc i) zero d up h later = absurd (omega arith)
partitioned low n (r ∷ rs) order (suc i) (suc j) d up h later = partitioned (r.number + 1) n rs order.1 i j d (omega arith) (omega arith) later

next_prefix : (i m : ℕ) (b : Bool) → suc i ≡ cond b (1 + m) 0 → (b ≡ true) × (i ≡ m)
next_prefix i m b e = grind arith

no_prefix : (m : ℕ) (b : Bool) → zero ≡ cond b (1 + m) 0 → b ≡ false
no_prefix m b e = grind arith

pub place_found : (n : ℕ) (rows : List Row) (i : ℕ) (d : Row) → i ≡ prefix_len (λ (r : Row). nat_lt r.number n) rows → i < length rows →
    (slice_index_or rows i d).number ≡ n → IsRowPlace n rows i
place_found n [] i d e h is = absurd (omega arith)
place_found n (r ∷ rs) zero d e h is = eq_is _ _ is
place_found n (r ∷ rs) (suc i) d e h is =
    let next = next_prefix i _ _ e in
    (eq_below _ _ (lt_back _ _ next.0), place_found n rs i d next.1 (omega arith) is)

-- a row that has a number stands at its place
pub stands_place : (low n : ℕ) (rows : List Row) (i : ℕ) (d : Row) → AscendFrom low rows → i < length rows → (slice_index_or rows i d).number ≡ n →
    IsRowPlace n rows i
stands_place low n [] i d order h is = absurd (omega (arith, h))
stands_place low n (r ∷ rs) zero d order h is = eq_is _ _ is
stands_place low n (r ∷ rs) (suc i) d order h is = grind (arith, low_bound, eq_below, (stands_place (r.number + 1) n rs i d order.1 (omega (arith, h)) is))

pub none_below : (low n : ℕ) (rows : List Row) → AscendFrom low rows → n < low → row_at n rows ≡ None
none_below low n [] order h = refl
none_below low n (r ∷ rs) order h = rw (eq_above r.number n (omega (arith, order.0, h))) (none_below (r.number + 1) n rs order.1 (omega (arith, order.0, h)))

pub place_missing : (low n : ℕ) (rows : List Row) (i : ℕ) → AscendFrom low rows → i ≡ prefix_len (λ (r : Row). nat_lt r.number n) rows →
    (i < length rows → (d : Row) → (slice_index_or rows i d).number ≡ n → ⊥) → row_at n rows ≡ None
place_missing low n [] i order e differ = refl
place_missing low n (r ∷ rs) zero order e differ =
    let above : n ≤ r.number = lt_back_no _ _ (no_prefix _ _ e) in
    let other : r.number ≡ n → ⊥ = differ (omega arith) r in
    let past : n < r.number = omega (arith, above, other) in
    rw (eq_above r.number n past) (none_below (r.number + 1) n rs order.1 (omega (arith, past)))
place_missing low n (r ∷ rs) (suc i) order e differ =
    let next = next_prefix i _ _ e in
    rw (eq_below _ _ (lt_back _ _ next.0)) (place_missing (r.number + 1) n rs i order.1 next.1 (λ h d. differ (omega (arith, h)) d))

pub found_get : (n : ℕ) (rows : List Row) (i : ℕ) → IsRowPlace n rows i → row_at n rows ≡ slice_get rows i
found_get n [] i h = absurd h
found_get n (r ∷ rs) zero h = rw h refl
found_get n (r ∷ rs) (suc i) h = rw h.0 (found_get n rs i h.1)

pub place_put : (n : ℕ) (rows : List Row) (i : ℕ) (new : Row) → IsRowPlace n rows i → slice_set rows i new ≡ change_row n (λ _. new) rows
place_put n [] i new h = absurd h
place_put n (r ∷ rs) zero new h = rw h refl
place_put n (r ∷ rs) (suc i) new h = rw h.0 (ap (λ xs. r ∷ xs) (place_put n rs i new h.1))

pub ascend_from_less : (low less : ℕ) (rows : List Row) → less ≤ low → AscendFrom low rows → AscendFrom less rows
ascend_from_less low less [] h order = tt
ascend_from_less low less (r ∷ rs) h order = (omega (arith, h, order.0), order.1)

-- the rows that a search for the next open case goes through
pub later_ascend : (low n : ℕ) (rows : List Row) (i : ℕ) → AscendFrom low rows → i ≡ prefix_len (λ (r : Row). nat_lt r.number n) rows →
    AscendFrom n (drop i rows)
later_ascend low n [] zero order e = tt
later_ascend low n [] (suc i) order e = tt
later_ascend low n (r ∷ rs) zero order e = (lt_back_no _ _ (no_prefix _ _ e), order.1)
later_ascend low n (r ∷ rs) (suc i) order e = later_ascend (r.number + 1) n rs i order.1 (next_prefix i _ _ e).1

not_from : (a n : ℕ) → a < n → nat_le n a ≡ false
not_from a n h = grind arith

is_from : (a n : ℕ) → n ≤ a → nat_le n a ≡ true
is_from a n h = grind arith

pub later_next : (n : ℕ) (rows : List Row) (i : ℕ) → i ≡ prefix_len (λ (r : Row). nat_lt r.number n) rows → next_open n (drop i rows) ≡ next_open n rows
later_next n [] zero e = refl
later_next n [] (suc i) e = refl
later_next n (r ∷ rs) zero e = refl
later_next n (r ∷ rs) (suc i) e =
    let next = next_prefix i _ _ e in
    rw (not_from r.number n (lt_back _ _ next.0)) (later_next n rs i next.1)

pub taken_off : (rows : List Row) (i : ℕ) (row : Row) → i < length rows → row ≡ get_or rows i row → drop i rows ≡ row ∷ drop (i + 1) rows
taken_off rows i row h is = grind (arith, drop-cons)

pub next_ascend : (n : ℕ) (rows : List Row) (i : ℕ) (row : Row) → i < length rows → row ≡ get_or rows i row → AscendFrom n (drop i rows) →
    AscendFrom n (drop (i + 1) rows)
next_ascend n rows i row h is order = grind (arith, taken_off, ascend_from_less)

pub next_passed : (n : ℕ) (rows : List Row) (i : ℕ) (row : Row) (goal : Option ℕ) → i < length rows → row ≡ get_or rows i row → AscendFrom n (drop i rows) →
    is_live row.case.phase ≡ false → next_open n (drop i rows) ≡ goal → next_open n (drop (i + 1) rows) ≡ goal
next_passed n rows i row goal h is order closed so_far = grind (arith, taken_off, is_from)

pub next_found : (n : ℕ) (rows : List Row) (i : ℕ) (row : Row) (goal : Option ℕ) → i < length rows → row ≡ get_or rows i row → AscendFrom n (drop i rows) →
    is_live row.case.phase ≡ true → next_open n (drop i rows) ≡ goal → Some row.number ≡ goal
next_found n rows i row goal h is order live so_far = grind (arith, taken_off, is_from)
