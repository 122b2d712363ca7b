-- Inside: the set of the pairs that pass a test, and its laws.
use Rattle.std.specs.Prelude.{◌≡◌, ℕ, ◌<◌, Bool, true, false, not, ◌&&◌, ◌||◌, ◌==◌, nat_lt}
use Rattle.std.specs.Prelude.{if◌then◌else◌}
use Rattle.std.proofs.Common.{zero, suc, ◌+◌, ◌*◌, ◌≤◌, cond, refl, sym, ap, subst, ◌∙◌, inl, inr}
use Rattle.std.proofs.Common.{arith, suc-mul}
use Rattle.std.proofs.lemmas.Bool.{cases_lt, lt-ltb, le-ltb, eqb-true}
use Rattle.std.proofs.lemmas.Bool.Decides.{eqb_tells}
use Rattle.std.specs.Cmp.{unsigned_tied}
use Rattle.std.specs.Ordering.{nat_cmp, eq_by_cmp, is_eq, ordering_then}
use Rattle.std.specs.declared.cmp.Ordering.{Ordering}
use Rattle.std.specs.declared.cmp.Ordering.TheVariants.{Less, Equal, Greater}
use Rattle.std.specs.FinSet as set
use Rattle.basics.specs.Laws.Pairs.{Pairs, pair_cmp}
use Rattle.basics.specs.PairLaws.{pair_cmp_total, pair_cmp-IsAntisymmetric}

-- s, and the pairs of a with each number below n that passes
pub with_row : (ℕ → Bool) → ℕ → ℕ → Pairs → Pairs
with_row t a zero s = s
with_row t a (suc b) s = if t b then set.insert (with_row t a b s) (a, b) else with_row t a b s

-- the pairs (a, b), a below m and b below n, that pass
pub set_of : (ℕ → ℕ → Bool) → ℕ → ℕ → Pairs
set_of t zero n = set.empty
set_of t (suc a) n = with_row (t a) a n (set_of t a n)

-- two pairs tie where both their numbers are equal
pub then_tied : (r o : Ordering) → is_eq (ordering_then r o) ≡ (is_eq r && is_eq o)
then_tied Less o = refl
then_tied Equal o = refl
then_tied Greater o = refl

pub pairs_tied : (x y a b : ℕ) → eq_by_cmp pair_cmp (x, y) (a, b) ≡ (x == a && y == b)
pairs_tied x y a b = then_tied (nat_cmp x a) (nat_cmp y b) ∙
    (λ i. unsigned_tied x a i && unsigned_tied y b i)

or_false : (b : Bool) → b ≡ (b || false)
or_false true = refl
or_false false = refl

-- what passes below the next number is that number or passes below it
below_next : (f : ℕ → Bool) (y b : ℕ) →
    (nat_lt y (suc b) && f y) ≡ ((y == b && f b) || (nat_lt y b && f y))
below_next f y b = elim (eqb_tells y b) [
  | inl same ↦
      (λ i. lt-ltb y (suc b) (omega (arith, same.1)) i && f (same.1 i))
      ∙ or_false (f b)
      ∙ sym (λ i. (same.0 i && f b) || (le-ltb y b (omega (arith, same.1)) i && f y))
  | inr differ ↦ elim (cases_lt y b) [
    | inl less ↦ ap (λ c. c && f y) (lt-ltb y (suc b) (omega (arith, less))) ∙
        sym (λ i. (differ.0 i && f b) || (lt-ltb y b less i && f y))
    | inr more ↦ ap (λ c. c && f y) (le-ltb y (suc b) (omega (arith, more, differ.1))) ∙
        sym (λ i. (differ.0 i && f b) || (le-ltb y b more i && f y))
  ]
]

grown : (u p e r c : Bool) →
    cond u ((p && e) || ((p && r) || c)) ((p && r) || c) ≡ ((p && ((e && u) || r)) || c)
grown true true true r c = refl
grown true true false r c = refl
grown true false e r c = refl
grown false true true r c = refl
grown false true false r c = refl
grown false false e r c = refl

none_so_far : (p : Bool) → (p && false) ≡ false
none_so_far true = refl
none_so_far false = refl

contains_with_row : (t : ℕ → Bool) (a n : ℕ) (s : Pairs) (x y : ℕ) → set.contains
    (with_row t a n s) (x, y) ≡ ((x == a && (nat_lt y n && t y)) || set.contains s (x, y))
unfolding with_row
contains_with_row t a zero s x y =
    sym (ap (λ c. (x == a && (c && t y)) || set.contains s (x, y)) (le-ltb y 0 (omega arith)) ∙
    ap (λ c. c || set.contains s (x, y)) (none_so_far (x == a)))
contains_with_row t a (suc b) s x y =
    let before = with_row t a b s in
    let split : set.contains (cond (t b) (set.insert before (a, b)) before) (x, y) ≡ cond (t b)
    (set.contains (set.insert before (a, b)) (x, y)) (set.contains before (x, y)) =
    elim (t b) as (λ u. set.contains (cond u (set.insert before (a, b)) before) (x, y) ≡ cond
    u (set.contains (set.insert before (a, b)) (x, y)) (set.contains before (x, y)))
    [ true ↦ refl | false ↦ refl ]
    in
    let rest = contains_with_row t a b s x y in
    split
    ∙ (λ i. cond (t b) ((set.contains-insert pair_cmp_total before (a, b) (x, y) ∙ ap (λ c. c ||
    set.contains before (x, y)) (pairs_tied x y a b)) i) (set.contains before (x, y)))
    ∙ ap (λ c. cond (t b) ((x == a && y == b) || c) c) rest
    ∙ grown (t b) (x == a) (y == b) (nat_lt y b && t y) (set.contains s (x, y))
    ∙ sym (ap (λ c. (x == a && c) || set.contains s (x, y)) (below_next t y b))

-- a pair is in the set where it is within the bounds and passes
pub contains_set_of : (t : ℕ → ℕ → Bool) (m n a b : ℕ) →
    set.contains (set_of t m n) (a, b) ≡ (nat_lt a m && (nat_lt b n && t a b))
unfolding set_of
contains_set_of t zero n x y = set.contains-empty pair_cmp (x, y) ∙
    sym (ap (λ c. c && (nat_lt y n && t x y)) (le-ltb x 0 (omega arith)))
contains_set_of t (suc a) n x y =
    contains_with_row (t a) a n (set_of t a n) x y
    ∙ ap (λ c. (x == a && (nat_lt y n && t a y)) || c) (contains_set_of t a n x y)
    ∙ sym (below_next (λ k. nat_lt y n && t k y) x a)

-- a set has the pairs of a test where it has no others
pub is_set_of : (s : Pairs) (t : ℕ → ℕ → Bool) (m n : ℕ) →
    ((x y : ℕ) → set.contains s (x, y) ≡ (nat_lt x m && (nat_lt y n && t x y))) →
    s ≡ set_of t m n
is_set_of s t m n is = set.same_set pair_cmp_total pair_cmp-IsAntisymmetric s (set_of t m n)
    (λ q. is q.0 q.1 ∙ sym (contains_set_of t m n q.0 q.1))

-- where nothing passes there is no pair
pub set_of_none : (t : ℕ → ℕ → Bool) (m n : ℕ) → ((x y : ℕ) → t x y ≡ false) →
    set_of t m n ≡ set.empty
set_of_none t m n none = sym (is_set_of set.empty t m n (λ x y.
    set.contains-empty pair_cmp (x, y)
    ∙ sym (ap (λ c. nat_lt x m && (nat_lt y n && c)) (none x y) ∙
    ap (λ c. nat_lt x m && c) (none_so_far (nat_lt y n)) ∙ none_so_far (nat_lt x m))))

let_in : (e p r c : Bool) → (e ≡ true → (p ≡ true) × (r ≡ true)) →
    (e || (p && (r && c))) ≡ (p && (r && (e || c)))
let_in true p r c within = let both = within refl in sym (λ i. both.0 i && (both.1 i && true))
let_in false p r c within = refl

let_out : (e p r c : Bool) → (not e && (p && (r && c))) ≡ (p && (r && (not e && c)))
let_out true p r c = sym (ap (λ d. p && d) (none_so_far r) ∙ none_so_far p)
let_out false p r c = refl

both_true : (e d : Bool) → (e && d) ≡ true → (e ≡ true) × (d ≡ true)
both_true true d h = (refl, h)
both_true false d h = cc

-- one more pair passes
pub set_of_insert : (t u : ℕ → ℕ → Bool) (m n a b : ℕ) →
    a < m → b < n → ((x y : ℕ) → u x y ≡ ((x == a && y == b) || t x y)) →
    set_of u m n ≡ set.insert (set_of t m n) (a, b)
set_of_insert t u m n a b first second more =
    sym (is_set_of (set.insert (set_of t m n) (a, b)) u m n (λ x y.
    set.contains-insert pair_cmp_total (set_of t m n) (a, b) (x, y)
    ∙ (λ i. pairs_tied x y a b i || contains_set_of t m n x y i)
    ∙ let_in (x == a && y == b) (nat_lt x m) (nat_lt y n) (t x y) (λ e.
    let both = both_true (x == a) (y == b) e in (
      lt-ltb x m (omega (arith, first, eqb-true x a both.0)),
      lt-ltb y n (omega (arith, second, eqb-true y b both.1)),
    ))
    ∙ sym (ap (λ c. nat_lt x m && (nat_lt y n && c)) (more x y))))

-- one pair passes no more
pub set_of_remove : (t u : ℕ → ℕ → Bool) (m n a b : ℕ) →
    ((x y : ℕ) → u x y ≡ (not (x == a && y == b) && t x y)) →
    set_of u m n ≡ set.remove (set_of t m n) (a, b)
set_of_remove t u m n a b less = sym (is_set_of (set.remove (set_of t m n) (a, b)) u m n (λ x y.
    set.contains-remove pair_cmp_total (set_of t m n) (a, b) (x, y)
    ∙ (λ i. not (pairs_tied x y a b i) && contains_set_of t m n x y i)
    ∙ let_out (x == a && y == b) (nat_lt x m) (nat_lt y n) (t x y)
    ∙ sym (ap (λ c. nat_lt x m && (nat_lt y n && c)) (less x y))))

-- step by step
pub set_of_first : (t : ℕ → ℕ → Bool) (n : ℕ) → set_of t 0 n ≡ set.empty
unfolding set_of
set_of_first t n = refl

pub set_of_next : (t : ℕ → ℕ → Bool) (a n : ℕ) →
    set_of t (suc a) n ≡ with_row (t a) a n (set_of t a n)
unfolding set_of
set_of_next t a n = refl

pub with_row_first : (t : ℕ → Bool) (a : ℕ) (s : Pairs) → with_row t a 0 s ≡ s
unfolding with_row
with_row_first t a s = refl

pub with_row_passed : (t : ℕ → Bool) (a b : ℕ) (s : Pairs) → t b ≡ true →
    with_row t a (suc b) s ≡ set.insert (with_row t a b s) (a, b)
unfolding with_row
with_row_passed t a b s pass =
    ap (λ c. cond c (set.insert (with_row t a b s) (a, b)) (with_row t a b s)) pass

-- numbers that do not pass add nothing
pub with_row_skipped : (t : ℕ → Bool) (a b c : ℕ) (s : Pairs) → b ≤ c →
    ((y : ℕ) → b ≤ y → y < c → t y ≡ false) → with_row t a c s ≡ with_row t a b s
unfolding with_row
with_row_skipped t a b zero s low none = let same : 0 ≡ b = omega (arith, low) in
    ap (λ n. with_row t a n s) same
with_row_skipped t a b (suc c) s low none = elim (cases_lt c b) [
  | inl less ↦ let same : suc c ≡ b = omega (arith, low, less) in ap (λ n. with_row t a n s) same
  | inr more ↦
      let before = with_row t a c s in
      ap (λ d. cond d (set.insert before (a, c)) before) (none c more (omega arith))
      ∙ with_row_skipped t a b c s more (λ y from below. none y from (omega (arith, below)))
]

-- there are at most as many pairs as the bounds leave room for
len_with_row : (t : ℕ → Bool) (a n : ℕ) (s : Pairs) → set.len (with_row t a n s) ≤ set.len s + n
unfolding with_row
len_with_row t a zero s = omega arith
len_with_row t a (suc b) s =
    let before = with_row t a b s in
    let few : set.len before ≤ set.len s + b = len_with_row t a b s in
    elim (t b) as (λ c. set.len (cond c (set.insert before (a, b)) before) ≤ set.len s + suc b) [
      | true ↦
          subst (λ n. n ≤ set.len s + suc b) (sym (set.len-insert pair_cmp_total before (a, b)))
          (elim (set.contains before (a, b))
          as (λ c. cond c (set.len before) (set.len before + 1) ≤ set.len s + suc b)
          [ true ↦ omega (arith, few) | false ↦ omega (arith, few) ])
      | false ↦ omega (arith, few)
    ]

pub len_set_of : (t : ℕ → ℕ → Bool) (m n : ℕ) → set.len (set_of t m n) ≤ m * n
unfolding set_of
len_set_of t zero n = subst (λ k. k ≤ 0 * n) (sym (set.len-empty pair_cmp)) (omega arith)
len_set_of t (suc a) n =
    let rest : set.len (set_of t a n) ≤ a * n = len_set_of t a n in
    let more = len_with_row (t a) a n (set_of t a n) in
    let next : suc a * n ≡ a * n + n = suc-mul a n in
    omega (arith, rest, more, next)
