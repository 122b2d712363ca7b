-- Twins: users who can be exchanged wherever what is not assigned yet is given to them.
use Rattle.std.specs.Prelude.{ℕ, zero, suc, Bool, true, false, not, ◌&&◌, ◌||◌, ◌==◌, List, [], ◌∷◌}
use Rattle.std.specs.Prelude.{length, Option, None, Some, slice_get}
use Rattle.constraint_forms.specs.declared.rule.Rule.{Rule}
use Rattle.constraint_forms.specs.Assign.{user_at}
use Rattle.constraint_forms.specs.Rules.{all_read}
use Rattle.policy_book.specs.Laws.Plans.{Problem}

-- two tests have the same answer
abbrev pub agree : Bool → Bool → Bool
agree true b = b
agree false b = not b

-- every number below n passes
abbrev pub all_below : ℕ → (ℕ → Bool) → Bool
all_below zero test = true
all_below (suc n) test = all_below n test && test n

-- a step is given to a user
abbrev pub is_given_to : ℕ → Option ℕ → Bool
is_given_to u None = false
is_given_to u (Some v) = v == u

-- no step is given to a user
abbrev pub has_no_step : List (Option ℕ) → ℕ → Bool
has_no_step assigned u = all_below (length assigned) (λ s. not (is_given_to u (user_at assigned s)))

-- two users are authorised for the same steps
abbrev pub may_do_the_same : Problem → ℕ → ℕ → Bool
may_do_the_same p u v = all_below p.steps (λ s. agree (p.authorised s u) (p.authorised s v))

-- a third user is related to two users alike, in both directions
abbrev pub is_alike_to : (ℕ → ℕ → Bool) → ℕ → ℕ → ℕ → Bool
is_alike_to holds u v w = agree (holds u w) (holds v w) && agree (holds w u) (holds w v)

-- a relation treats u and v alike: towards every other user below `users`, and between themselves
abbrev pub treats_alike : ℕ → (ℕ → ℕ → Bool) → ℕ → ℕ → Bool
treats_alike users holds u v =
    all_below users (λ w. (w == u || w == v) || is_alike_to holds u v w) &&
    (agree (holds u u) (holds v v) && agree (holds u v) (holds v u))

-- there is no rule, or every relation that it reads treats two users alike
abbrev pub is_rule_alike : Problem → ℕ → ℕ → Option Rule → Bool
is_rule_alike p u v None = true
is_rule_alike p u v (Some rule) = all_read rule (λ rho. treats_alike p.users (p.related rho) u v)

-- every relation that a rule reads treats two users alike
abbrev pub are_related_alike : Problem → ℕ → ℕ → Bool
are_related_alike p u v =
    all_below (length p.rules) (λ k. is_rule_alike p u v (slice_get p.rules k))

-- two users have no step, are authorised for the same steps, and every relation that a rule reads
-- treats them alike
abbrev pub are_twins : Problem → List (Option ℕ) → ℕ → ℕ → Bool
are_twins p assigned u v =
    (has_no_step assigned u && has_no_step assigned v) &&
    (may_do_the_same p u v && are_related_alike p u v)

-- a user is one of a list
abbrev pub is_one_of : List ℕ → ℕ → Bool
is_one_of [] u = false
is_one_of (v ∷ vs) u = (v == u) || is_one_of vs u

-- a user is a twin of one of a list
abbrev pub has_twin : Problem → List (Option ℕ) → ℕ → List ℕ → Bool
has_twin p assigned u [] = false
has_twin p assigned u (v ∷ vs) = are_twins p assigned u v || has_twin p assigned u vs
