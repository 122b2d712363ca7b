-- What is true of the tests over a set's members, and of rules by their forms.
use Rattle.std.proofs.Common.{◌≡◌, ℕ, zero, suc, ◌+◌, Bool, not, ◌&&◌, ◌||◌, List, [], ◌∷◌, Option, Some, is_some}
use Rattle.std.proofs.Common.{refl, sym, subst, arith, add-zero, zero-add}
use Rattle.std.specs.Bool.{IsTrue}
use Rattle.basics.proofs.Booleans.{and_same, eq_same, or_left, or_right}
use Rattle.constraint_forms.specs.declared.rule.Rule.TheVariants.{Pair, SomeOf}
use Rattle.constraint_forms.specs.Assign.{is_member}
use Rattle.constraint_forms.specs.Rules.{any_from, all_from, are_unrelated, names, Relating}
use Rattle.constraint_forms.proofs.Counting.{different-alike, different-le, free_from-same, free_from-total, from_zero, le_not, lt_less, lt_more, reach-le}
use Rattle.constraint_forms.proofs.Counting.{users_from-more, users_from-same}
use Rattle.constraint_forms.specs.Laws.{TotalsDecide, StaysFalsified, FalsifiedByNamed, SatisfiedByNamed, SeesRelatedness}

-- ---- what a rule names

pub first-named : (rho first second : ℕ) → IsTrue (names (Pair rho first second) first)
first-named rho first second = or_left _ _ (eq_same first)

pub second-named : (rho first second : ℕ) → IsTrue (names (Pair rho first second) second)
second-named rho first second = or_right _ _ (eq_same second)

pub step-named : (rho : ℕ) (group : List Bool) (step : ℕ) → IsTrue (names (SomeOf rho group step) step)
step-named rho group step = or_left _ _ (eq_same step)

pub member-named : (rho : ℕ) (group : List Bool) (step s : ℕ) → IsTrue (is_member group s) → IsTrue (names (SomeOf rho group step) s)
member-named rho group step s h = or_right _ _ h

-- ---- members that pass, and that do not

not_not : (b : Bool) → b ≡ not (not b)
not_not b = grind arith

some_not : (b q a c : Bool) → a ≡ not c → ((b && q) || a) ≡ not ((not b || not q) && c)
some_not b q a c e = grind arith

every_not : (b q a c : Bool) → a ≡ not c → ((not b || q) && a) ≡ not ((b && not q) || c)
every_not b q a c e = grind arith

any_from-not : (p : ℕ → Bool) (k : ℕ) (bs : List Bool) → any_from k bs p ≡ not (all_from k bs (λ x. not (p x)))
any_from-not p k [] = refl
any_from-not p k (b ∷ bs) = some_not b (p k) _ _ (any_from-not p (k + 1) bs)

all_from-not : (p : ℕ → Bool) (k : ℕ) (bs : List Bool) → all_from k bs p ≡ not (any_from k bs (λ x. not (p x)))
all_from-not p k [] = refl
all_from-not p k (b ∷ bs) = every_not b (p k) _ _ (all_from-not p (k + 1) bs)

pub totals_decide : TotalsDecide
totals_decide = grind (arith, not_not, any_from-not, all_from-not, le_not, free_from-total)

-- ---- what stays falsified

abbrev Implies : Bool → Bool → Type 0
Implies a b = IsTrue a → IsTrue b

and_more : (a b c d : Bool) → Implies a c → Implies b d → Implies (a && b) (c && d)
and_more a b c d h i = grind arith

or_more : (a b c d : Bool) → Implies a c → Implies b d → Implies (a || b) (c || d)
or_more a b c d h i = grind arith

any_from-more : (p q : ℕ → Bool) → ((x : ℕ) → Implies (p x) (q x)) → (k : ℕ) (bs : List Bool) → Implies (any_from k bs p) (any_from k bs q)
any_from-more p q h k [] = λ i. i
any_from-more p q h k (b ∷ bs) = or_more _ _ _ _ (and_more b (p k) b (q k) (λ i. i) (h k)) (any_from-more p q h (k + 1) bs)

all_from-more : (p q : ℕ → Bool) → ((x : ℕ) → Implies (p x) (q x)) → (k : ℕ) (bs : List Bool) → Implies (all_from k bs p) (all_from k bs q)
all_from-more p q h k [] = λ i. i
all_from-more p q h k (b ∷ bs) = and_more _ _ _ _ (or_more (not b) (p k) (not b) (q k) (λ i. i) (h k)) (all_from-more p q h (k + 1) bs)

abbrev Keeps : Option ℕ → Option ℕ → Type 0
Keeps u v = (x : ℕ) → u ≡ Some x → v ≡ Some x

unrelated-more : (related : Relating) (rho : ℕ) (u v u' v' : Option ℕ) → Keeps u u' → Keeps v v' →
    Implies (are_unrelated related rho u v) (are_unrelated related rho u' v')
unrelated-more related rho u v u' v' h i = grind arith

some-more : (u v : Option ℕ) → Keeps u v → Implies (is_some u) (is_some v)
some-more u v h = grind arith

pub stays_falsified : StaysFalsified
stays_falsified = grind (arith, unrelated-more, and_more, some-more, all_from-more, any_from-more, lt_more, different-le, users_from-more, lt_less, reach-le)

-- ---- what rules do not see

or_same : (b p q : Bool) → (IsTrue b → p ≡ q) → (not b || p) ≡ (not b || q)
or_same b p q h = grind arith

abbrev SameFrom : ℕ → List Bool → (ℕ → Bool) → (ℕ → Bool) → Type 0
SameFrom k bs p q = (i : ℕ) → IsTrue (is_member bs i) → p (k + i) ≡ q (k + i)

same-here : (k : ℕ) (b : Bool) (bs : List Bool) (p q : ℕ → Bool) → SameFrom k (b ∷ bs) p q → IsTrue b → p k ≡ q k
same-here k b bs p q h t = subst (λ n. p n ≡ q n) (add-zero k) (h zero t)

same-after : (k : ℕ) (b : Bool) (bs : List Bool) (p q : ℕ → Bool) → SameFrom k (b ∷ bs) p q → SameFrom (k + 1) bs p q
same-after k b bs p q h i t =
    let e : k + suc i ≡ (k + 1) + i = omega arith in
    subst (λ n. p n ≡ q n) e (h (suc i) t)

any_from-same : (p q : ℕ → Bool) (k : ℕ) (bs : List Bool) → SameFrom k bs p q → any_from k bs p ≡ any_from k bs q
any_from-same p q k [] h = refl
any_from-same p q k (b ∷ bs) h =
    λ i. and_same b (p k) (q k) (same-here k b bs p q h) i || any_from-same p q (k + 1) bs (same-after k b bs p q h) i

all_from-same : (p q : ℕ → Bool) (k : ℕ) (bs : List Bool) → SameFrom k bs p q → all_from k bs p ≡ all_from k bs q
all_from-same p q k [] h = refl
all_from-same p q k (b ∷ bs) h =
    λ i. or_same b (p k) (q k) (same-here k b bs p q h) i && all_from-same p q (k + 1) bs (same-after k b bs p q h) i

abbrev SameAtMembers : List Bool → (ℕ → Bool) → (ℕ → Bool) → Type 0
SameAtMembers bs p q = (i : ℕ) → IsTrue (is_member bs i) → p i ≡ q i

from_start : (bs : List Bool) (p q : ℕ → Bool) → SameAtMembers bs p q → SameFrom 0 bs p q
from_start bs p q h i t = subst (λ n. p n ≡ q n) (sym (zero-add i)) (h i t)

any-same : (p q : ℕ → Bool) (bs : List Bool) → SameAtMembers bs p q → any_from 0 bs p ≡ any_from 0 bs q
any-same p q bs h = any_from-same p q 0 bs (from_start bs p q h)

all-same : (p q : ℕ → Bool) (bs : List Bool) → SameAtMembers bs p q → all_from 0 bs p ≡ all_from 0 bs q
all-same p q bs h = all_from-same p q 0 bs (from_start bs p q h)

pub falsified_by_named : FalsifiedByNamed
falsified_by_named related (Pair rho first second) a b h = grind (arith, first-named, second-named)
falsified_by_named related h1 a b h = grind (arith, step-named, all-same, member-named, any-same, users_from-same, from_zero, free_from-same)

pub satisfied_by_named : SatisfiedByNamed
satisfied_by_named = grind (arith, first-named, second-named, any-same, member-named, step-named, all-same, users_from-same, from_zero)

pub sees_relatedness : SeesRelatedness
sees_relatedness = grind (arith, eq_same, first-named, second-named, any-same, member-named, step-named, all-same, different-alike)
