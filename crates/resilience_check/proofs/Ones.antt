-- Who is one of some users.
use Rattle.std.proofs.Common.{◌≡◌, refl, sym, ap, ◌∙◌, ℕ, zero, suc, ◌+◌, ◌<◌, Bool, true, false, ◌||◌, ◌==◌, List, [], ◌∷◌, ◌++◌}
use Rattle.std.proofs.Common.{length, cond, get_or, ◌⊎◌, inl, inr, arith}
use Rattle.std.proofs.Math.Bool.{or_assoc}
use Rattle.std.proofs.lemmas.Bool.{false≢true, eqb-true}
use Rattle.basics.proofs.Booleans.{or_cases, or_left, or_right, eq_is, eq_same}
use Rattle.policy_book.specs.Laws.Twins.{is_one_of}

pub one_append : (xs ys : List ℕ) (u : ℕ) → is_one_of (xs ++ ys) u ≡ (is_one_of xs u || is_one_of ys u)
one_append [] ys u = refl
one_append (x ∷ xs) ys u = ap (λ b. (x == u) || b) (one_append xs ys u) ∙ sym (or_assoc (x == u) (is_one_of xs u) (is_one_of ys u))

pub one_here : (u : ℕ) (us : List ℕ) → is_one_of (u ∷ us) u ≡ true
one_here u us = or_left (u == u) (is_one_of us u) (eq_same u)

-- the list without the first place of a user
abbrev pub removed : ℕ → List ℕ → List ℕ
removed u [] = []
removed u (v ∷ vs) = cond (v == u) vs (v ∷ removed u vs)

pub length-removed : (u : ℕ) (vs : List ℕ) → is_one_of vs u ≡ true → length (removed u vs) + 1 ≡ length vs
length-removed u [] h = absurd (false≢true h)
length-removed u (v ∷ vs) h = at (v == u) h (length-removed u vs)
  where
    at : (b : Bool) → (b || is_one_of vs u) ≡ true → (is_one_of vs u ≡ true → length (removed u vs) + 1 ≡ length vs)
        → length (cond b vs (v ∷ removed u vs)) + 1 ≡ suc (length vs)
    at true h rest = omega arith
    at false h rest = let less = rest h in omega (arith, less)

-- whoever is one of some users is the one removed, or one of the others
pub stays_one : (u w : ℕ) (vs : List ℕ) → is_one_of vs w ≡ true → (w ≡ u) ⊎ (is_one_of (removed u vs) w ≡ true)
stays_one u w [] h = absurd (false≢true h)
stays_one u w (v ∷ vs) h = at (v == u) refl (stays_one u w vs)
  where
    kept : (v == w) ≡ true → is_one_of (v ∷ removed u vs) w ≡ true
    kept e = or_left (v == w) (is_one_of (removed u vs) w) e

    later : (w ≡ u) ⊎ (is_one_of (removed u vs) w ≡ true) → (w ≡ u) ⊎ (is_one_of (v ∷ removed u vs) w ≡ true)
    later (inl same) = inl same
    later (inr one) = inr (or_right (v == w) (is_one_of (removed u vs) w) one)

    at : (b : Bool) → (v == u) ≡ b → (is_one_of vs w ≡ true → (w ≡ u) ⊎ (is_one_of (removed u vs) w ≡ true))
        → (w ≡ u) ⊎ (is_one_of (cond b vs (v ∷ removed u vs)) w ≡ true)
    at true e rest = elim (or_cases (v == w) (is_one_of vs w) h) [
      | inl here ↦ inl (sym (eqb-true v w here) ∙ eqb-true v u e)
      | inr one ↦ inr one
    ]
    at false e rest = elim (or_cases (v == w) (is_one_of vs w) h) [
      | inl here ↦ inr (kept here)
      | inr one ↦ later (rest one)
    ]

-- whoever is left was one of them
pub was_one : (u w : ℕ) (vs : List ℕ) → is_one_of (removed u vs) w ≡ true → is_one_of vs w ≡ true
was_one u w [] h = absurd (false≢true h)
was_one u w (v ∷ vs) h = at (v == u) h (was_one u w vs)
  where
    at : (b : Bool) → is_one_of (cond b vs (v ∷ removed u vs)) w ≡ true → (is_one_of (removed u vs) w ≡ true → is_one_of vs w ≡ true)
        → ((v == w) || is_one_of vs w) ≡ true
    at true h rest = or_right (v == w) (is_one_of vs w) h
    at false h rest = elim (or_cases (v == w) (is_one_of (removed u vs) w) h) [
      | inl here ↦ or_left (v == w) (is_one_of vs w) here
      | inr one ↦ or_right (v == w) (is_one_of vs w) (rest one)
    ]

-- the user at a place is one of the users
pub one_at : (us : List ℕ) (i x : ℕ) → i < length us → x ≡ get_or us i x → is_one_of us x ≡ true
one_at [] i x h is = absurd (omega (arith, h))
one_at (v ∷ vs) zero x h is = or_left (v == x) (is_one_of vs x) (eq_is v x (sym is))
one_at (v ∷ vs) (suc i) x h is = or_right (v == x) (is_one_of vs x) (one_at vs i x (omega (arith, h)) is)

swapped : (e m a : Bool) → (e || (m || a)) ≡ (m || (e || a))
swapped true true a = refl
swapped true false a = refl
swapped false m a = refl

-- a user beside some, or beside the others
pub one_beside : (u : ℕ) (more away : List ℕ) (w : ℕ) → is_one_of ((u ∷ more) ++ away) w ≡ is_one_of (more ++ (u ∷ away)) w
one_beside u more away w =
    ap (λ b. (u == w) || b) (one_append more away w)
    ∙ swapped (u == w) (is_one_of more w) (is_one_of away w)
    ∙ sym (one_append more (u ∷ away) w)

or_swap : (a b : Bool) → (a || b) ≡ (b || a)
or_swap true true = refl
or_swap true false = refl
or_swap false true = refl
or_swap false false = refl

pub one_exchanged : (xs ys : List ℕ) (w : ℕ) → is_one_of (xs ++ ys) w ≡ is_one_of (ys ++ xs) w
one_exchanged xs ys w = one_append xs ys w ∙ or_swap (is_one_of xs w) (is_one_of ys w) ∙ sym (one_append ys xs w)

pub known_with : (n : ℕ) (us : List ℕ) (u : ℕ) → ((w : ℕ) → is_one_of us w ≡ true → w < n) → u < n → (w : ℕ) → is_one_of (us ++ u ∷ []) w ≡ true
    → w < n
known_with n us u known below w one = elim (or_cases (is_one_of us w) (is_one_of (u ∷ []) w) (sym (one_append us (u ∷ []) w) ∙ one)) [
  | inl before ↦ known w before
  | inr last ↦ elim (or_cases (u == w) false last) [
    | inl same ↦ let is = eqb-true u w same in omega (arith, is, below)
    | inr none ↦ absurd (false≢true none)
  ]
]
