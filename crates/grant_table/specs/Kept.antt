-- Inside: how a table of cases is kept.
use Rattle.std.specs.Prelude.{◌≡◌, ℕ, zero, suc, ◌+◌, ◌<◌, ◌≤◌, true, false, nat_eq, List, [], ◌∷◌}
use Rattle.std.specs.Prelude.{length, take, drop, slice_get, Option, None, Some, is_some}
use Rattle.wf_names.specs.declared.limits.TheConstants.{OPEN_CASE_LIMIT, CASE_LIMIT}
use Rattle.case_record.specs.Cases.{is_open}
use Rattle.grant_table.specs.declared.rows.Row.{Row}
use Rattle.grant_table.specs.Cases.{open_count, row_at}

-- the numbers of the rows ascend, and none is below low
abbrev pub AscendFrom : ℕ → List Row → Type 0
AscendFrom low [] = Unit {0}
AscendFrom low (r ∷ rs) = (low ≤ r.number) × AscendFrom (r.number + 1) rs

-- the numbers of the rows are below high
abbrev pub AreNumberedBelow : ℕ → List Row → Type 0
AreNumberedBelow high [] = Unit {0}
AreNumberedBelow high (r ∷ rs) = (r.number < high) × AreNumberedBelow high rs

-- a plan is kept exactly for the open cases
abbrev pub ArePlannedWhileOpen : List Row → Type 0
ArePlannedWhileOpen [] = Unit {0}
ArePlannedWhileOpen (r ∷ rs) = (is_some r.plan ≡ is_open r.case) × ArePlannedWhileOpen rs

-- what every table keeps: ascending numbers below the count of cases ever opened, a plan for each
-- open case and no other, the number of open cases, and both limits
pub record IsSoundTable (rows : List Row) (ever live : ℕ) : Type 0 where
  pub ascend : AscendFrom 0 rows
  pub below : AreNumberedBelow ever rows
  pub planned : ArePlannedWhileOpen rows
  pub counted : open_count rows ≡ live
  pub few : live ≤ OPEN_CASE_LIMIT
  pub limit : ever ≤ CASE_LIMIT

-- the place `first` is in the rows or right behind them, and no case before it is open
pub record ArePassed (rows : List Row) (first : ℕ) : Type 0 where
  pub ended : open_count (take first rows) ≡ 0
  pub within : first ≤ length rows

-- no case before some place is open, and `part` is the rows from that place on
abbrev pub IsOpenPart : List Row → List Row → Type 0
IsOpenPart rows part = (first : ℕ) × ArePassed rows first × (part ≡ drop first rows)

-- what the code keeps: a sound table, and a place before which no case is open
pub record IsKeptTable (rows : List Row) (ever live first : ℕ) : Type 0 where
  pub sound : IsSoundTable rows ever live
  pub passed : ArePassed rows first

-- the row with the number n stands at i, and no earlier row has it
abbrev pub IsRowPlace : ℕ → List Row → ℕ → Type 0
IsRowPlace n [] i = ⊥
IsRowPlace n (r ∷ rs) zero = nat_eq r.number n ≡ true
IsRowPlace n (r ∷ rs) (suc i) = (nat_eq r.number n ≡ false) × IsRowPlace n rs i

-- the search for the number n has found its row at i
pub record IsRowFound (n : ℕ) (rows : List Row) (i : ℕ) : Type 0 where
  pub place : IsRowPlace n rows i
  pub found : row_at n rows ≡ slice_get rows i
  pub within : i < length rows

-- the rows of a table with at most one case
abbrev pub rows_of : Option Row → List Row
rows_of None = []
rows_of (Some r) = r ∷ []
