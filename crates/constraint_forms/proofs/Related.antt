-- Whom a pair of steps leaves of the users who could be given a step.
use Rattle.std.proofs.Common.{◌≡◌, ℕ, ◌<◌, Bool, true, false, not, ◌&&◌, ◌||◌, nat_eq, nat_lt, List, length, slice_set, Option, Some, None}
use Rattle.std.proofs.Common.{is_some, get_or-set_same, get_or-set_other, sym, ap, ap₂, ◌∙◌, ◌⊎◌, inl, inr, arith}
use Rattle.basics.proofs.Booleans.{and_same, bool_cases, differ, eq_back, eq_is, lt_yes, not_true, or-false, or_right}
use Rattle.constraint_forms.specs.Assign.{user_at}
use Rattle.constraint_forms.specs.Kept.{are_unrelated_with}
use Rattle.constraint_forms.specs.Rules.{Relating, are_unrelated, turned}

-- the step has a place
pub step_in : (a : List (Option ℕ)) (s n : ℕ) → s < n → length a ≡ n → s < length a
step_in a s n h e = omega (arith, h, e)

-- ---- a relation that is read as it is, or the other way round

twice_not : (b : Bool) → b ≡ not (not b)
twice_not b = grind arith

self_related : (related : Relating) (rho u : ℕ) (back : Bool) → related rho u u ≡ not (not (turned back related rho u u))
self_related related rho u back = grind (arith, twice_not)

-- the users who stay are those who are related to v
pub stay_before : (related : Relating) (rho users u v : ℕ) (b t : Bool) → (b ≡ true → u < users) → t ≡ (nat_lt u users && related rho u v) →
    (b && t) ≡ (b && not (are_unrelated related rho (Some u) (Some v)))
stay_before related rho users u v b t below is = grind (arith, and_same, lt_yes, twice_not)

-- read the other way round, the two change places
pub other_way : (related : Relating) (back : Bool) (rho u : ℕ) (o : Option ℕ) →
    are_unrelated (turned (not back) related) rho (Some u) o ≡ are_unrelated (turned back related) rho o (Some u)
other_way related back rho u o = grind arith

-- ---- with a step given to a user

module _ (a : List (Option ℕ)) (s u : ℕ) (within : s < length a) where
  pub at_step : (x : ℕ) → true ≡ nat_eq x s → user_at (slice_set a s (Some u)) x ≡ Some u
  at_step x is = ap (user_at (slice_set a s (Some u))) (eq_back x s (sym is)) ∙ get_or-set_same a s (Some u) None within

  pub at_other : (x : ℕ) → false ≡ nat_eq x s → user_at (slice_set a s (Some u)) x ≡ user_at a x
  at_other x is = get_or-set_other a s x (Some u) None (λ same. differ (nat_eq x s) (eq_is x s same) (sym is))

  -- whom the steps x and y leave, by the users that they have then
  pub left_by : (related : Relating) (rho x y : ℕ) (b : Bool) (f g : Option ℕ) → user_at (slice_set a s (Some u)) x ≡ f
      → user_at (slice_set a s (Some u)) y ≡ g → (b && not (are_unrelated related rho f g)) ≡ (b && not (are_unrelated_with related rho a x y s u))
  left_by related rho x y b f g is_x is_y = sym (ap₂ (λ o p. b && not (are_unrelated related rho o p)) is_x is_y)

  pub left_by_itself : (related : Relating) (back : Bool) (rho x y : ℕ) (b : Bool) → true ≡ nat_eq x s → true ≡ nat_eq y s
      → (b && related rho u u) ≡ (b && not (are_unrelated_with (turned back related) rho a x y s u))
  left_by_itself related back rho x y b is_x is_y =
      ap (λ t. b && t) (self_related related rho u back)
      ∙ left_by (turned back related) rho x y b (Some u) (Some u) (at_step x is_x) (at_step y is_y)

  -- a step has a user then, if it had one or is the step that is given
  pub is_given : (x : ℕ) → is_some (user_at (slice_set a s (Some u)) x) ≡ (is_some (user_at a x) || nat_eq s x)
  is_given x = at (bool_cases (nat_eq s x))
    where
      at : (nat_eq s x ≡ true) ⊎ (nat_eq s x ≡ false) → is_some (user_at (slice_set a s (Some u)) x) ≡ (is_some (user_at a x) || nat_eq s x)
      at (inl is) = ap is_some (at_step x (sym (eq_is x s (sym (eq_back s x is))))) ∙ sym (or_right (is_some (user_at a x)) (nat_eq s x) is)
      at (inr is) =
          let other : nat_eq x s ≡ false = not_true (nat_eq x s) (λ e. differ (nat_eq s x) (eq_is s x (sym (eq_back x s e))) is) in
          ap is_some (at_other x (sym other)) ∙ sym (ap (λ b. is_some (user_at a x) || b) is ∙ or-false (is_some (user_at a x)))

-- ---- user by user

pub kept_if : (b t : Bool) → t ≡ true → b ≡ (b && t)
kept_if b t e = grind arith

pub out_before : (b t : Bool) → b ≡ false → b ≡ (b && t)
out_before b t e = grind arith

pub taken_out : (m b t : Bool) → m ≡ true → t ≡ false → (not m && b) ≡ (b && t)
taken_out m b t e f = grind arith
