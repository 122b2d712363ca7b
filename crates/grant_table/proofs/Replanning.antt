-- How the open cases of a table get other plans.
use Rattle.std.proofs.Common.{◌≡◌, ℕ, ◌+◌, ◌<◌, ◌≤◌, true, false, List, [], ◌∷◌, ◌++◌, length, take, drop, get_or, slice_set, refl, sym, ap, ◌∙◌}
use Rattle.std.proofs.Common.{arith}
use Rattle.std.proofs.lemmas.List.{append_assoc, drop-set-lt, drop_all, take-append-drop, take_more_set}
use Rattle.std.proofs.Math.Seq.{drop-cons}
use Rattle.basics.proofs.Booleans.{bool_cases}
use Rattle.basics.proofs.Lists.{take_next}
use Rattle.grant_table.specs.declared.rows.Row.{Row}
use Rattle.grant_table.specs.Cases.{is_open_row, open_count, replanned, replanned_row}
use Rattle.grant_table.specs.Kept.{AreNumberedBelow, ArePlannedWhileOpen, AscendFrom, IsSoundTable}
use Rattle.grant_table.proofs.Counts.{counted}
use Rattle.grant_table.proofs.Places.{taken_off}

-- where there are no plans left, all stays
pub replanned_none : (rows : List Row) → replanned rows [] ≡ rows
replanned_none [] = refl
replanned_none (r ∷ rs) = refl

-- a case that is not open is passed over
pub replanned_closed : (r : Row) (rs : List Row) (plans : List (List ℕ)) → is_open_row r ≡ false → replanned (r ∷ rs) plans ≡ r ∷ replanned rs plans
replanned_closed r rs plans closed = grind (arith, replanned_none)

-- an open case gets the next plan
pub replanned_open : (r : Row) (rs : List Row) (plan : List ℕ) (plans : List (List ℕ)) → is_open_row r ≡ true →
    replanned (r ∷ rs) (plan ∷ plans) ≡ replanned_row plan r ∷ replanned rs plans
replanned_open r rs plan plans live = rw live refl

-- how far a loop over the rows has come
abbrev pub replanned_so_far : List Row → ℕ → List (List ℕ) → ℕ → List Row
replanned_so_far rows i plans k = take i rows ++ replanned (drop i rows) (drop k plans)

-- the row that comes next is passed over
pub passes_over : (rows : List Row) (i : ℕ) (plans : List (List ℕ)) (k : ℕ) (r : Row) → i < length rows → r ≡ get_or rows i r →
    replanned (r ∷ drop (i + 1) rows) (drop k plans) ≡ r ∷ replanned (drop (i + 1) rows) (drop k plans) →
    replanned_so_far rows (i + 1) plans k ≡ replanned_so_far rows i plans k
passes_over rows i plans k r below is passed =
    ap (λ xs. xs ++ replanned (drop (i + 1) rows) (drop k plans)) (take_next rows i r below is)
    ∙ append_assoc (take i rows) (r ∷ []) (replanned (drop (i + 1) rows) (drop k plans))
    ∙ ap (λ xs. take i rows ++ xs) (sym passed ∙ ap (λ xs. replanned xs (drop k plans)) (sym (taken_off rows i r below is)))

-- the row that comes next gets the next plan
pub gets_next : (rows : List Row) (i : ℕ) (plans : List (List ℕ)) (k : ℕ) (r : Row) (plan : List ℕ) → i < length rows → r ≡ get_or rows i r →
    k < length plans → plan ≡ get_or plans k plan → is_open_row r ≡ true →
    replanned_so_far (slice_set rows i (replanned_row plan r)) (i + 1) plans (k + 1) ≡ replanned_so_far rows i plans k
gets_next rows i plans k r plan below is plan_below plan_is live =
    grind (arith, drop-cons, taken_off, replanned_open, take_more_set, drop-set-lt, append_assoc)

-- where there are no plans left, all of the rows are there
pub none_left : (rows : List Row) (i : ℕ) (plans : List (List ℕ)) (k : ℕ) → length plans ≤ k →
    replanned_so_far rows (i + 1) plans k ≡ replanned_so_far rows i plans k
none_left rows i plans k past = grind (arith, drop_all, replanned_none, take-append-drop)

ascend_replanned : (low : ℕ) (rows : List Row) (plans : List (List ℕ)) → AscendFrom low rows → AscendFrom low (replanned rows plans)
ascend_replanned low [] plans order = tt
ascend_replanned low (r ∷ rs) [] order = order
ascend_replanned low (r ∷ rs) (plan ∷ plans) order =
    grind (arith, bool_cases, (ascend_replanned (r.number + 1) rs plans order.1), (ascend_replanned (r.number + 1) rs (plan ∷ plans) order.1))

below_replanned : (high : ℕ) (rows : List Row) (plans : List (List ℕ)) → AreNumberedBelow high rows → AreNumberedBelow high (replanned rows plans)
below_replanned high [] plans below = tt
below_replanned high (r ∷ rs) [] below = below
below_replanned high (r ∷ rs) (plan ∷ plans) below =
    grind (arith, bool_cases, (below_replanned high rs plans below.1), (below_replanned high rs (plan ∷ plans) below.1))

planned_replanned : (rows : List Row) (plans : List (List ℕ)) → ArePlannedWhileOpen rows → ArePlannedWhileOpen (replanned rows plans)
planned_replanned [] plans planned = tt
planned_replanned (r ∷ rs) [] planned = planned
planned_replanned (r ∷ rs) (plan ∷ plans) planned =
    grind (arith, bool_cases, (planned_replanned rs plans planned.1), (planned_replanned rs (plan ∷ plans) planned.1))

-- as many cases are open as before
pub count_replanned : (rows : List Row) (plans : List (List ℕ)) → open_count (replanned rows plans) ≡ open_count rows
count_replanned [] plans = refl
count_replanned (r ∷ rs) [] = refl
count_replanned (r ∷ rs) (plan ∷ plans) =
    grind (arith, bool_cases, replanned_open, counted, replanned_closed, (count_replanned rs plans), (count_replanned rs (plan ∷ plans)))

-- a table with other plans is kept
pub kept_replanned : (ever live : ℕ) (rows : List Row) (plans : List (List ℕ)) → IsSoundTable rows ever live → IsSoundTable (replanned rows plans) ever live
kept_replanned ever live rows plans kept = grind (arith, ascend_replanned, below_replanned, planned_replanned, counted, count_replanned)
