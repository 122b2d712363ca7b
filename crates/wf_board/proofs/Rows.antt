-- Rows of a table where one changes, and where one is added.
use Rattle.wf_board.proofs.Common.{◌≡◌, ℕ, ◌+◌, true, List, [], ◌∷◌, ◌++◌, map, Some, is_some, refl, ap, arith, CaseShape, is_open, Row, case_in, change_row}
use Rattle.wf_board.proofs.Common.{open_rows, eq_is, Numbered, numbered_case, with_case_changed, numbered, EachRow}
use Rattle.std.proofs.Common.{cond, nat_eq}
use Rattle.std.specs.List.{fold}
use Rattle.std.specs.Option.{option_map}
use Rattle.grant_table.specs.Cases.{only, row_at}
use Rattle.grant_table.specs.Cases as Tables
use Rattle.wf_board.specs.Laws.States as States

-- a case with a number has a row
pub row_of_case : (n : ℕ) (rows : List Row) (c : CaseShape) → case_in n rows ≡ Some c → (r : Row) × ((row_at n rows ≡ Some r) × (r.case ≡ c))
row_of_case n rows c h = grind arith

-- what holds of each row holds of the one with a number
pub each_at : (P : Row → Type 0) (n : ℕ) (rows : List Row) (r : Row) → EachRow P rows → row_at n rows ≡ Some r → P r
each_at P n [] r each h = cc
each_at P n (x ∷ xs) r each h = grind (arith, (each_at P n xs r each.1))

pub each_changed : (P : Row → Type 0) (n : ℕ) (f : Row → Row) (rows : List Row) → EachRow P rows → ((r : Row) → row_at n rows ≡ Some r → P r → P (f r)) →
    EachRow P (change_row n f rows)
each_changed P n f [] each h = tt
each_changed P n f (x ∷ xs) each h = grind (arith, (each_changed P n f xs each.1))

pub each_added : (P : Row → Type 0) (rows : List Row) (new : Row) → EachRow P rows → P new → EachRow P (rows ++ new ∷ [])
each_added P [] new each h = (h, tt)
each_added P (r ∷ rs) new each h = (each.0, each_added P rs new each.1 h)

pub each_only : (P : Row → Type 0) (n : ℕ) (rows : List Row) → EachRow P rows → EachRow P (only n rows)
each_only P n [] each = tt
each_only P n (r ∷ rs) each = grind (arith, (each_only P n rs each.1))

pub each_open : (P : Row → Type 0) (rows : List Row) → EachRow P rows → EachRow P (open_rows rows)
each_open P [] each = tt
each_open P (r ∷ rs) each = grind (arith, (each_open P rs each.1))

found_first : (m : ℕ) (x : Row) (xs : List Row) → nat_eq x.number m ≡ true → is_some (case_in m (x ∷ xs)) ≡ true
found_first m x xs hit = rw hit refl

-- a change of a row that keeps its number leaves a case at each number
pub there_changed : (m n : ℕ) (f : Row → Row) (rows : List Row) → ((r : Row) → (f r).number ≡ r.number) → is_some (case_in m rows) ≡ true →
    is_some (case_in m (change_row n f rows)) ≡ true
there_changed m n f [] same h = h
there_changed m n f (x ∷ xs) same h = grind (arith, found_first, (there_changed m n f xs same))

-- an addition leaves a case at each number
pub there_added : (m : ℕ) (rows : List Row) (new : Row) → is_some (case_in m rows) ≡ true → is_some (case_in m (rows ++ new ∷ [])) ≡ true
there_added m [] new h = cc
there_added m (x ∷ xs) new h = grind (arith, (there_added m xs new))

-- and puts one at the new number
pub there_last : (m : ℕ) (rows : List Row) (new : Row) → new.number ≡ m → is_some (case_in m (rows ++ new ∷ [])) ≡ true
there_last m [] new same = rw (eq_is new.number m same) refl
there_last m (x ∷ xs) new same = grind (arith, (there_last m xs new same))

-- the case with a number after a change of its row
pub changed_case : (n : ℕ) (f : Row → Row) (g : CaseShape → CaseShape) (rows : List Row) → ((r : Row) → (f r).number ≡ r.number) →
    ((r : Row) → (f r).case ≡ g r.case) →
    case_in n (change_row n f rows) ≡ option_map g (case_in n rows)
changed_case n f g [] same changes = refl
changed_case n f g (x ∷ xs) same changes = grind (arith, (changed_case n f g xs same changes))

-- ---- rows of a table as cases of a book

-- a table has the cases of its book
pub case_numbered : (n : ℕ) (rows : List Row) → numbered_case (map numbered rows) n ≡ case_in n rows
case_numbered n [] = refl
case_numbered n (r ∷ rs) = grind (arith, (case_numbered n rs))

counted : (rows : List Row) (so_far : ℕ) → fold (λ (a : ℕ) (e : Numbered). a + cond (is_open e.case) 1 0) so_far (map numbered rows) ≡ fold
    (λ (a : ℕ) (r : Row). a + cond (is_open r.case) 1 0) so_far rows
counted [] so_far = refl
counted (r ∷ rs) so_far = counted rs (so_far + cond (is_open r.case) 1 0)

-- and as many open ones
pub open_numbered : (rows : List Row) → States.count_open (map numbered rows) ≡ Tables.open_count rows
open_numbered rows = counted rows 0

-- a changed row is a changed case
pub numbered_changed : (n : ℕ) (f : Row → Row) (g : CaseShape → CaseShape) (rows : List Row) → ((r : Row) → (f r).number ≡ r.number) →
    ((r : Row) → (f r).case ≡ g r.case) →
    map numbered (change_row n f rows) ≡ with_case_changed n g (map numbered rows)
numbered_changed n f g [] same changes = refl
numbered_changed n f g (x ∷ xs) same changes = grind (arith, (numbered_changed n f g xs same changes))

-- an added row is an added case
pub numbered_added : (rows : List Row) (new : Row) → map numbered (rows ++ new ∷ []) ≡ map numbered rows ++ numbered new ∷ []
numbered_added [] new = refl
numbered_added (r ∷ rs) new = ap (λ es. numbered r ∷ es) (numbered_added rs new)
