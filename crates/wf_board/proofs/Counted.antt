-- How many entries pass a test, and where the last one stands, with one more entry.
use Rattle.wf_board.proofs.Common.{◌≡◌, ℕ, zero, suc, ◌+◌, ◌≤◌, Bool, List, [], ◌∷◌, ◌++◌, length, if◌then◌else◌, refl, ap, ◌∙◌, arith, drop-append-le, Entry}
use Rattle.std.proofs.Common.{drop}
use Rattle.wf_board.specs.Counting.{count_of, last_end_from}

-- and with one more
pub count_more : (test : Entry → Bool) (entries : List Entry) (e : Entry) →
    count_of test (entries ++ e ∷ []) ≡ count_of test entries + (if test e then 1 else 0)
count_more test [] e = omega arith
count_more test (x ∷ xs) e = let rest = count_more test xs e in omega (arith, rest)

-- and from a place on
pub count_from_more : (test : Entry → Bool) (n : ℕ) (entries : List Entry) (e : Entry) → n ≤ length entries →
    count_of test (drop n (entries ++ e ∷ [])) ≡ count_of test (drop n entries) + (if test e then 1 else 0)
count_from_more test n entries e within = ap (count_of test) (drop-append-le n entries (e ∷ []) within) ∙ count_more test (drop n entries) e

count_some : (test : Entry → Bool) (n : ℕ) (entries : List Entry) → count_of test (drop n entries) ≤ count_of test entries
count_some test zero entries = omega arith
count_some test (suc n) entries = grind (arith, (count_some test n))

-- from a later place on no more pass
pub count_later : (test : Entry → Bool) (entries : List Entry) (m n : ℕ) → m ≤ n → count_of test (drop n entries) ≤ count_of test (drop m entries)
count_later test entries zero n later = count_some test n entries
count_later test entries (suc m) zero later = absurd (omega (arith, later))
count_later test [] (suc m) (suc n) later = omega arith
count_later test (x ∷ xs) (suc m) (suc n) later = count_later test xs m n (omega (arith, later))

-- behind the last entry none passes
pub count_past : (test : Entry → Bool) (entries : List Entry) (n : ℕ) → length entries ≤ n → count_of test (drop n entries) ≡ 0
count_past test [] zero past = refl
count_past test [] (suc n) past = refl
count_past test (x ∷ xs) zero past = absurd (omega (arith, past))
count_past test (x ∷ xs) (suc n) past = count_past test xs n (omega (arith, past))

-- the place behind the last that passes, with one more
pub end_more : (n before : ℕ) (test : Entry → Bool) (entries : List Entry) (e : Entry) →
    last_end_from n before test (entries ++ e ∷ []) ≡ (if test e then n + length entries + 1 else last_end_from n before test entries)
end_more n before test [] e = let same : n + 1 ≡ n + 0 + 1 = omega arith in ap (λ m. if test e then m else before) same
end_more n before test (x ∷ xs) e =
    let same : n + 1 + length xs + 1 ≡ n + suc (length xs) + 1 = omega arith in
    let next = if test x then n + 1 else before in
    end_more (n + 1) next test xs e ∙ ap (λ m. if test e then m else last_end_from (n + 1) next test xs) same

next_within : (n before : ℕ) (b : Bool) → before ≤ n → (if b then n + 1 else before) ≤ n + 1
next_within n before b known = grind arith

-- it is no place behind the entries
pub end_within : (n before : ℕ) (test : Entry → Bool) (entries : List Entry) → before ≤ n → last_end_from n before test entries ≤ n + length entries
end_within n before test [] known = omega (arith, known)
end_within n before test (x ∷ xs) known =
    grind (arith, (end_within (n + 1) (if test x then n + 1 else before) test xs (next_within n before (test x) known)))

-- nor before the place where none passes
pub end_above : (n before : ℕ) (test : Entry → Bool) (entries : List Entry) → before ≤ n → before ≤ last_end_from n before test entries
end_above n before test [] known = omega arith
end_above n before test (x ∷ xs) known =
    grind (arith, (end_above (n + 1) (n + 1) test xs (omega arith)), (end_above (n + 1) before test xs (omega (arith, known))))

-- where one passes, it is behind the first
pub end_there : (n before : ℕ) (test : Entry → Bool) (entries : List Entry) → 1 ≤ count_of test entries → n + 1 ≤ last_end_from n before test entries
end_there n before test [] some = absurd (omega (arith, some))
end_there n before test (x ∷ xs) some = grind (arith, end_above, (end_there (n + 1) before test xs))
