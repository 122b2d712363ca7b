-- Tests joined by `and` and `or`, and tests of equal numbers.
use Rattle.std.proofs.Common.{◌≡◌, ◌≢◌, ℕ, ◌<◌, ◌≤◌, ◌⊎◌, Bool, true, false, not, ◌&&◌, ◌||◌, nat_eq, nat_lt, nat_le, refl, arith, eq-eqb}

pub or_cases : (a b : Bool) → (a || b) ≡ true → (a ≡ true) ⊎ (b ≡ true)
or_cases a b h = grind arith

pub or_left : (a b : Bool) → a ≡ true → (a || b) ≡ true
or_left a b h = grind arith

pub or_right : (a b : Bool) → b ≡ true → (a || b) ≡ true
or_right a b h = grind arith

pub or_false : (a b : Bool) → (a || b) ≡ false → (a ≡ false) × (b ≡ false)
or_false a b h = grind arith

pub and_both : (a b : Bool) → (a && b) ≡ true → (a ≡ true) × (b ≡ true)
and_both a b h = grind arith

pub and_from : (a b : Bool) → a ≡ true → b ≡ true → (a && b) ≡ true
and_from a b h i = grind arith

pub and_or : (l a b : Bool) → (l && (a || b)) ≡ ((l && a) || (l && b))
and_or l a b = grind arith

pub and_same : (l a b : Bool) → (l ≡ true → a ≡ b) → (l && a) ≡ (l && b)
and_same l a b h = grind arith

pub or-false : (a : Bool) → (a || false) ≡ a
or-false a = grind arith

pub and-false : (a : Bool) → (a && false) ≡ false
and-false a = grind arith

pub and_swap : (a b : Bool) → (a && b) ≡ (b && a)
and_swap a b = grind arith

pub twice_and : (a b : Bool) → (a && (a && b)) ≡ (a && b)
twice_and a b = grind arith

pub not_true : (a : Bool) → (a ≡ true → ⊥) → a ≡ false
not_true a h = grind arith

pub same_by : (a b : Bool) → (a ≡ true → b ≡ true) → (b ≡ true → a ≡ true) → a ≡ b
same_by a b f g = grind arith

pub eq_same : (n : ℕ) → nat_eq n n ≡ true
eq_same n = eq-eqb n n refl

pub eq_other : (m n : ℕ) → m ≢ n → nat_eq m n ≡ false
eq_other m n h = grind arith

pub lt_yes : (m n : ℕ) → m < n → nat_lt m n ≡ true
lt_yes m n h = grind arith

pub lt_no : (m n : ℕ) → n ≤ m → nat_lt m n ≡ false
lt_no m n h = grind arith

pub lt_back : (m n : ℕ) → nat_lt m n ≡ true → m < n
lt_back m n h = grind arith

pub lt_back_no : (m n : ℕ) → nat_lt m n ≡ false → n ≤ m
lt_back_no m n h = grind arith

pub eq_back : (m n : ℕ) → nat_eq m n ≡ true → m ≡ n
eq_back m n h = grind arith

pub le_back : (m n : ℕ) → nat_le m n ≡ true → m ≤ n
le_back m n h = grind arith

pub le_yes : (m n : ℕ) → m ≤ n → nat_le m n ≡ true
le_yes m n h = grind arith

pub not_false : (a : Bool) → not a ≡ false → a ≡ true
not_false a h = grind arith

pub second_false : (a b : Bool) → (a && b) ≡ false → a ≡ true → b ≡ false
second_false a b h e = grind arith

pub differ : (b : Bool) → b ≡ true → b ≡ false → ⊥
differ b h k = cc

pub bool_cases : (b : Bool) → (b ≡ true) ⊎ (b ≡ false)
bool_cases b = grind arith

pub eq_is : (m n : ℕ) → m ≡ n → nat_eq m n ≡ true
eq_is m n h = grind arith

pub eq_below : (m n : ℕ) → m < n → nat_eq m n ≡ false
eq_below m n h = grind arith

pub eq_above : (m n : ℕ) → n < m → nat_eq m n ≡ false
eq_above m n h = grind arith

pub not_yes : (a : Bool) → not a ≡ true → a ≡ false
not_yes a h = grind arith
