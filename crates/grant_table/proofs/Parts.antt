-- What a part of a table keeps.
use Rattle.std.proofs.Common.{◌≡◌, ℕ, zero, suc, ◌+◌, ◌<◌, ◌≤◌, Bool, List, [], ◌∷◌, length, get_or, slice_get, Some, refl, sym, ap}
use Rattle.std.proofs.Common.{subst, ◌∙◌, arith}
use Rattle.std.specs.List.{filter}
use Rattle.grant_table.specs.declared.rows.Row.{Row}
use Rattle.grant_table.specs.Cases.{is_open_row, only, open_count, open_rows, row_at}
use Rattle.grant_table.specs.Kept.{AreNumberedBelow, ArePlannedWhileOpen, AscendFrom, IsSoundTable, rows_of}
use Rattle.basics.proofs.Booleans.{bool_cases, eq_above, eq_back}
use Rattle.grant_table.proofs.Counts.{counted}
use Rattle.grant_table.proofs.Places.{ascend_from_less}

ascend_filter : (p : Row → Bool) (low : ℕ) (rows : List Row) → AscendFrom low rows → AscendFrom low (filter p rows)
ascend_filter p low [] order = tt
ascend_filter p low (r ∷ rs) order = grind (arith, bool_cases, ascend_from_less, (ascend_filter p (r.number + 1) rs order.1))

below_filter : (p : Row → Bool) (high : ℕ) (rows : List Row) → AreNumberedBelow high rows → AreNumberedBelow high (filter p rows)
below_filter p high [] below = tt
below_filter p high (r ∷ rs) below = grind (arith, bool_cases, (below_filter p high rs below.1))

planned_filter : (p : Row → Bool) (rows : List Row) → ArePlannedWhileOpen rows → ArePlannedWhileOpen (filter p rows)
planned_filter p [] planned = tt
planned_filter p (r ∷ rs) planned = grind (arith, bool_cases, (planned_filter p rs planned.1))

count_filter : (p : Row → Bool) (rows : List Row) → open_count (filter p rows) ≤ open_count rows
count_filter p [] = omega arith
count_filter p (r ∷ rs) = grind (arith, bool_cases, counted, (count_filter p rs))

-- a table of some of the rows is kept
pub kept_filter : (p : Row → Bool) (ever live : ℕ) (rows : List Row) → IsSoundTable rows ever live →
    IsSoundTable (filter p rows) ever (open_count (filter p rows))
kept_filter p ever live rows kept = grind (arith, ascend_filter, below_filter, planned_filter, counted, count_filter)

-- all open cases are among the open cases
count_open : (rows : List Row) → open_count (open_rows rows) ≡ open_count rows
count_open [] = refl
count_open (r ∷ rs) = grind (arith, bool_cases, counted, (count_open rs))

pub kept_open : (ever live : ℕ) (rows : List Row) → IsSoundTable rows ever live → IsSoundTable (open_rows rows) ever live
kept_open ever live rows kept = subst (IsSoundTable (open_rows rows) ever) (count_open rows ∙ kept.counted) (kept_filter is_open_row ever live rows kept)

none_only : (low n : ℕ) (rows : List Row) → AscendFrom low rows → n < low → only n rows ≡ []
none_only low n [] order h = refl
none_only low n (r ∷ rs) order h = rw (eq_above r.number n (omega (arith, order.0, h))) (none_only (r.number + 1) n rs order.1 (omega (arith, order.0, h)))

-- the rows with a number are the row with it, if there is one
pub only_is : (low n : ℕ) (rows : List Row) → AscendFrom low rows → only n rows ≡ rows_of (row_at n rows)
only_is low n [] order = refl
only_is low n (r ∷ rs) order = grind (arith, bool_cases, none_only, eq_back, (only_is (r.number + 1) n rs order.1))

pub get_there : (rows : List Row) (i : ℕ) (row : Row) → i < length rows → row ≡ get_or rows i row → slice_get rows i ≡ Some row
get_there [] i row h is = absurd (omega arith)
get_there (r ∷ rs) zero row h is = ap Some (sym is)
get_there (r ∷ rs) (suc i) row h is = get_there rs i row (omega arith) is
