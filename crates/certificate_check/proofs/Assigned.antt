-- Assignments with one more step given, and what tests say.
use Rattle.std.proofs.Common.{◌≡◌, sym, ap, subst, ◌∙◌, ℕ, ◌<◌, ◌≤◌, true, not, List, length, get_or, Option, None, Some, is_some, slice_set}
use Rattle.std.proofs.Common.{Bool, ◌⊎◌, arith}
use Rattle.std.proofs.lemmas.Bool.{false≢true}
use Rattle.std.proofs.lemmas.Bool.Decides.{eqb_tells, leb_tells}
use Rattle.std.proofs.lemmas.List.{get_or-set_same, get_or-set_other, set_past}
use Rattle.constraint_forms.specs.Assign.{user_at}
use Rattle.policy_book.specs.Laws.Plans.{AreAssigned}

pub not_some : (o : Option ℕ) → not (is_some o) ≡ true → o ≡ None
not_some o h = grind (arith, false≢true)

abbrev value_or_zero : Option ℕ → ℕ
value_or_zero None = 0
value_or_zero (Some u) = u

pub same_some : (x y : ℕ) → Some x ≡ Some y → x ≡ y
same_some x y e = ap value_or_zero e

pub either : {A B X : Type 0} → A ⊎ B → (A → X) → (B → X) → X
either h0 f g = grind arith

pub none_not_some : {X : Type 0} (u : ℕ) → None ≡ Some u → X
none_not_some u e = absurd (false≢true (ap is_some e))

-- what a step has after another one was given, or the same one
pub given_other : (a : List (Option ℕ)) (s u t : ℕ) → (t ≡ s → ⊥) → user_at (slice_set a s (Some u)) t ≡ user_at a t
given_other a s u t apart = get_or-set_other a s t (Some u) None apart

pub given_same : (a : List (Option ℕ)) (s u : ℕ) → s < length a → user_at (slice_set a s (Some u)) s ≡ Some u
given_same a s u below = get_or-set_same a s (Some u) None below

pub given_past : (a : List (Option ℕ)) (s u t : ℕ) → length a ≤ s → user_at (slice_set a s (Some u)) t ≡ user_at a t
given_past a s u t past = ap (λ (b : List (Option ℕ)). get_or b t None) (set_past a s (Some u) past)

-- whoever has a step after another was given: the one given, or the one from before
pub given : (a : List (Option ℕ)) (s u t w : ℕ) → user_at (slice_set a s (Some u)) t ≡ Some w → ((t ≡ s) × (w ≡ u)) ⊎ (user_at a t ≡ Some w)
given a s u t w h = grind (arith, eqb_tells, given_past, same_some, given_same, leb_tells, given_other)

-- finished steps stay assigned where one more step is given
pub still_assigned : (done : List Bool) (a : List (Option ℕ)) (t u : ℕ) → t < length a → AreAssigned done a → AreAssigned done (slice_set a t (Some u))
still_assigned done a t u below are s is = either (eqb_tells s t)
    (λ same. (u, subst (λ k. user_at (slice_set a t (Some u)) k ≡ Some u) (sym same.1) (given_same a t u below)))
    (λ apart. (let w = are s is in (w.0, given_other a t u s apart.1 ∙ w.1)))
