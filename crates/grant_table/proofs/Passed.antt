-- The ended cases in front of the open ones are passed over.
use Rattle.std.proofs.Common.{◌≡◌, ℕ, zero, suc, ◌+◌, ◌<◌, ◌≤◌, false, cond, inl, inr, nat_eq, nat_le, List, [], ◌∷◌, ◌++◌, length, take, drop}
use Rattle.std.proofs.Common.{IsSomeAnd, get_or, refl, sym, ap, ◌∙◌, arith}
use Rattle.basics.proofs.Booleans.{and-false, bool_cases}
use Rattle.basics.proofs.Lists.{take_next}
use Rattle.grant_table.specs.declared.rows.Row.{Row}
use Rattle.grant_table.specs.Cases.{change_row, is_open_row, next_open, ones, open_count, open_rows, replanned, row_at}
use Rattle.grant_table.specs.Kept.{ArePassed, AscendFrom, IsKeptTable, IsSoundTable}
use Rattle.grant_table.proofs.Counts.{counted}
use Rattle.grant_table.proofs.Keeping.{count_added}
use Rattle.grant_table.proofs.Places.{ascend_from_less}
use Rattle.grant_table.proofs.Replanning.{replanned_closed, replanned_open}

-- the first of rows of which none is open is not open
pub closed_first : (n : ℕ) (r : Row) (rs : List Row) → open_count (take (suc n) (r ∷ rs)) ≡ 0 → is_open_row r ≡ false
closed_first n r rs none = grind (arith, bool_cases, counted)

pub closed_rest : (n : ℕ) (r : Row) (rs : List Row) → open_count (take (suc n) (r ∷ rs)) ≡ 0 → open_count (take n rs) ≡ 0
closed_rest n r rs none = omega (arith, none, counted r (take n rs))

pub open_passed : (n : ℕ) (rows : List Row) → open_count (take n rows) ≡ 0 → open_rows (drop n rows) ≡ open_rows rows
open_passed zero rows none = refl
open_passed (suc n) [] none = refl
open_passed (suc n) (r ∷ rs) none = rw (closed_first n r rs none) (open_passed n rs (closed_rest n r rs none))

pub next_open_passed : (from_number n : ℕ) (rows : List Row) → open_count (take n rows) ≡ 0 → next_open from_number (drop n rows) ≡ next_open from_number rows
next_open_passed from_number zero rows none = refl
next_open_passed from_number (suc n) [] none = refl
next_open_passed from_number (suc n) (r ∷ rs) none =
    rw (closed_first n r rs none, and-false (nat_le from_number r.number)) (next_open_passed from_number n rs (closed_rest n r rs none))

pub replanned_passed : (n : ℕ) (rows : List Row) (plans : List (List ℕ)) → open_count (take n rows) ≡ 0 →
    take n rows ++ replanned (drop n rows) plans ≡ replanned rows plans
replanned_passed zero rows plans none = refl
replanned_passed (suc n) [] plans none = refl
replanned_passed (suc n) (r ∷ rs) plans none =
    ap (λ xs. r ∷ xs) (replanned_passed n rs plans (closed_rest n r rs none)) ∙ sym (replanned_closed r rs plans (closed_first n r rs none))

pub ascend_passed : (low n : ℕ) (rows : List Row) → AscendFrom low rows → AscendFrom low (drop n rows)
ascend_passed low zero rows order = order
ascend_passed low (suc n) [] order = order
ascend_passed low (suc n) (r ∷ rs) order = ascend_from_less (r.number + 1) low (drop n rs) (omega (arith, order.0)) (ascend_passed (r.number + 1) n rs order.1)

-- one more row whose case is not open
pub one_passed : (rows : List Row) (i : ℕ) (row : Row) → i < length rows → row ≡ get_or rows i row → is_open_row row ≡ false →
    open_count (take i rows) ≡ 0 → open_count (take (i + 1) rows) ≡ 0
one_passed rows i row below is closed none =
    let zero_ones : ◌≡◌ {A = ℕ} (ones row) 0 = ap (λ b. cond b 1 0) closed in
    let more : open_count (take (i + 1) rows) ≡ open_count (take i rows) + ones row = ap open_count (take_next rows i row below is) ∙
    count_added (take i rows) row in
    omega (arith, more, none, zero_ones)

taken_all : (i : ℕ) (rows : List Row) → length rows ≤ i → take i rows ≡ rows
taken_all zero [] h = refl
taken_all zero (r ∷ rs) h = absurd (omega (arith, h))
taken_all (suc i) [] h = refl
taken_all (suc i) (r ∷ rs) h = ap (λ xs. r ∷ xs) (taken_all i rs (omega (arith, h)))

pub all_passed : (rows : List Row) (i : ℕ) → length rows ≤ i → open_count (take i rows) ≡ 0 → ArePassed rows (length rows)
all_passed rows i past none = grind (arith, taken_all)

-- ---- what changes the rows

taken_added : (n : ℕ) (rows : List Row) (new : Row) → n ≤ length rows → take n (rows ++ new ∷ []) ≡ take n rows
taken_added zero rows new h = refl
taken_added (suc n) [] new h = absurd (omega (arith, h))
taken_added (suc n) (r ∷ rs) new h = ap (λ xs. r ∷ xs) (taken_added n rs new (omega (arith, h)))

longer_by_one : (rows : List Row) (new : Row) → length rows ≤ length (rows ++ new ∷ [])
longer_by_one [] new = omega arith
longer_by_one (r ∷ rs) new = omega (arith, longer_by_one rs new)

pub passed_added : (first : ℕ) (rows : List Row) (new : Row) → ArePassed rows first → ArePassed (rows ++ new ∷ []) first
passed_added first rows new passed = grind (arith, taken_added, longer_by_one)

put_counts : (n : ℕ) (rows : List Row) (new : Row) (more : ℕ) → open_count (take n rows) ≡ 0 →
    IsSomeAnd (row_at new.number rows) (λ r. ones r ≡ ones new + more)
    → open_count (take n (change_row new.number (λ _. new) rows)) ≡ 0
put_counts zero rows new more none there = refl
put_counts (suc n) [] new more none there = refl
put_counts (suc n) (r ∷ rs) new more none there = elim (bool_cases (nat_eq r.number new.number)) [
  | inl hit ↦
      let zero_ones : ◌≡◌ {A = ℕ} (ones r) 0 = ap (λ b. cond b 1 0) (closed_first n r rs none) in
      let same : ones r ≡ ones new + more = rw hit at there in
      rw hit (omega (arith, zero_ones, same, closed_rest n r rs none, counted new (take n rs)))
  | inr miss ↦
      let zero_ones : ◌≡◌ {A = ℕ} (ones r) 0 = ap (λ b. cond b 1 0) (closed_first n r rs none) in
      let later : IsSomeAnd (row_at new.number rs) (λ r. ones r ≡ ones new + more) = rw miss at there in
      rw miss (omega (arith, zero_ones, put_counts n rs new more (closed_rest n r rs none) later, counted r (take n (change_row new.number (λ _. new) rs))))
]

same_length : (n : ℕ) (rows : List Row) (new : Row) → length (change_row n (λ _. new) rows) ≡ length rows
same_length n [] new = refl
same_length n (r ∷ rs) new = grind (arith, bool_cases, (same_length n rs new))

pub passed_put : (first : ℕ) (rows : List Row) (new : Row) (more : ℕ) → ArePassed rows first →
    IsSomeAnd (row_at new.number rows) (λ r. ones r ≡ ones new + more)
    → ArePassed (change_row new.number (λ _. new) rows) first
passed_put first rows new more passed there = grind (arith, put_counts, same_length)

replanned_counts : (n : ℕ) (rows : List Row) (plans : List (List ℕ)) → open_count (take n (replanned rows plans)) ≡ open_count (take n rows)
replanned_counts zero rows plans = refl
replanned_counts (suc n) [] plans = refl
replanned_counts (suc n) (r ∷ rs) [] = refl
replanned_counts (suc n) (r ∷ rs) (plan ∷ plans) =
    grind (arith, bool_cases, replanned_open, counted, replanned_closed, (replanned_counts n rs plans), (replanned_counts n rs (plan ∷ plans)))

replanned_length : (rows : List Row) (plans : List (List ℕ)) → length (replanned rows plans) ≡ length rows
replanned_length [] plans = refl
replanned_length (r ∷ rs) [] = refl
replanned_length (r ∷ rs) (plan ∷ plans) =
    grind (arith, bool_cases, replanned_open, replanned_closed, (replanned_length rs plans), (replanned_length rs (plan ∷ plans)))

pub passed_replanned : (first : ℕ) (rows : List Row) (plans : List (List ℕ)) → ArePassed rows first → ArePassed (replanned rows plans) first
passed_replanned first rows plans passed = grind (arith, replanned_counts, replanned_length)

-- ---- tables of which none is known to have ended

pub none_passed : (rows : List Row) → ArePassed rows 0
none_passed rows = record { ended = refl; within = omega arith }

pub kept_anew : (rows : List Row) (ever live : ℕ) → IsSoundTable rows ever live → IsKeptTable rows ever live 0
kept_anew rows ever live sound = record { sound = sound; passed = none_passed rows }
