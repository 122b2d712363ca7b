-- The next open case is the least.
use Rattle.std.proofs.Common.{◌≡◌, ℕ, ◌+◌, ◌<◌, ◌≤◌, Bool, true, false, ◌&&◌, nat_eq, nat_le, List, [], ◌∷◌, Option, None, Some, MatchOption, refl}
use Rattle.std.proofs.Common.{sym, ap, subst, arith}
use Rattle.std.specs.Option.{option_map}
use Rattle.case_record.specs.Cases.{is_open}
use Rattle.grant_table.specs.declared.rows.Row.{Row}
use Rattle.grant_table.specs.Cases.{CasesShape, IsNextOpen, case_in, is_open_case, next_open}
use Rattle.grant_table.specs.Kept.{AscendFrom}
use Rattle.basics.proofs.Booleans.{and_both, bool_cases, differ, eq_above, eq_back, eq_is, le_back, le_yes, second_false}
use Rattle.grant_table.proofs.Places.{none_below}

-- whether the case with a number is open
abbrev open_in : ℕ → List Row → Bool
open_in n rows = is_open_case (case_in n rows)

record IsLeast (rows : List Row) (low n : ℕ) : Type 0 where
  known : low ≤ n
  open_case : open_in n rows ≡ true
  least : (m : ℕ) → low ≤ m → m < n → open_in m rows ≡ false

open_here : (n : ℕ) (r : Row) (rs : List Row) → nat_eq r.number n ≡ true → open_in n (r ∷ rs) ≡ is_open r.case
open_here n r rs h = rw h refl

open_there : (n : ℕ) (r : Row) (rs : List Row) → nat_eq r.number n ≡ false → open_in n (r ∷ rs) ≡ open_in n rs
open_there n r rs h = rw h refl

none_open : (low n : ℕ) (rows : List Row) → AscendFrom low rows → n < low → open_in n rows ≡ false
none_open low n rows order h = ap (λ o. is_open_case (option_map (λ (r : Row). r.case) o)) (none_below low n rows order h)

-- a row that the search passes over is not open, or below
passed : (low m : ℕ) (r : Row) (rs : List Row) → (nat_le low r.number && is_open r.case) ≡ false → low ≤ m → open_in m rs ≡ false → open_in m (r ∷ rs) ≡ false
passed low m r rs test h rest = grind (arith, bool_cases, open_here, second_false, le_yes, eq_back, open_there)

-- an open case of the rest is not the first
beyond : (n : ℕ) (r : Row) (rs : List Row) → AscendFrom (r.number + 1) rs → open_in n rs ≡ true → open_in n (r ∷ rs) ≡ true
beyond n r rs order h = grind (arith, bool_cases, differ, none_open, eq_back, open_there)

longer : (low : ℕ) (r : Row) (rs : List Row) (o : Option ℕ) → AscendFrom (r.number + 1) rs → (nat_le low r.number && is_open r.case) ≡ false →
    MatchOption o ((m : ℕ) → low ≤ m → open_in m rs ≡ false) (λ n. IsLeast rs low n) →
    MatchOption o ((m : ℕ) → low ≤ m → open_in m (r ∷ rs) ≡ false) (λ n. IsLeast (r ∷ rs) low n)
longer low r rs o order test h = grind (arith, passed, beyond)

means : (b low : ℕ) (rows : List Row) → AscendFrom b rows →
    MatchOption (next_open low rows) ((m : ℕ) → low ≤ m → open_in m rows ≡ false) (λ n. IsLeast rows low n)
means b low [] order = λ m above. refl
means b low (r ∷ rs) order =
    grind (arith, bool_cases, and_both, le_back, open_here, eq_is, open_there, eq_above, none_open, longer, (means (r.number + 1) low rs order.1))

by_table : (t : CasesShape) (low : ℕ) (o : Option ℕ) → MatchOption o ((m : ℕ) → low ≤ m → open_in m t.rows ≡ false) (λ n. IsLeast t.rows low n) →
    MatchOption o ((m : ℕ) → low ≤ m → open_in m t.rows ≡ false) (λ n. IsNextOpen t low n)
by_table t low o h = grind arith

pub next_open-means : (t : CasesShape) (low : ℕ) → AscendFrom 0 t.rows →
    MatchOption (next_open low t.rows) ((m : ℕ) → low ≤ m → is_open_case (case_in m t.rows) ≡ false) (λ n. IsNextOpen t low n)
next_open-means t low order = by_table t low (next_open low t.rows) (means 0 low t.rows order)

pub next_some : (t : CasesShape) (low n : ℕ) → AscendFrom 0 t.rows → Some n ≡ next_open low t.rows → IsNextOpen t low n
next_some t low n order e =
    subst (λ o. MatchOption o ((m : ℕ) → low ≤ m → is_open_case (case_in m t.rows) ≡ false) (λ k. IsNextOpen t low k)) (sym e) (next_open-means t low order)

pub next_none : (rows : List Row) (low : ℕ) → AscendFrom 0 rows → None ≡ next_open low rows → (m : ℕ) → low ≤ m → is_open_case (case_in m rows) ≡ false
next_none rows low order e =
    let t : CasesShape = record { rows = rows; ever = 0; spare = 0 } in
    subst (λ o. MatchOption o ((m : ℕ) → low ≤ m → is_open_case (case_in m rows) ≡ false) (λ k. IsNextOpen t low k)) (sym e) (next_open-means t low order)
