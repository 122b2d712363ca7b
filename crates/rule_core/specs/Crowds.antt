-- Crowds: steps that want different users, of whom there are too few.
use Rattle.std.specs.Prelude.{◌≡◌, ℕ, zero, suc, ◌<◌, Bool, true, false, not, ◌&&◌, ◌||◌, ◌==◌}
use Rattle.std.specs.Prelude.{List, [], ◌∷◌, length, Option, None, Some, if◌then◌else◌, slice_get}
use Rattle.constraint_forms.specs.declared.rule.Rule.{Rule}
use Rattle.constraint_forms.specs.declared.rule.Rule.TheVariants.{Pair, SomeOf, AllOf, SomeTo}
use Rattle.constraint_forms.specs.declared.rule.Rule.TheVariants.{AllTo, AtMost, AtLeast}
use Rattle.constraint_forms.specs.Assign.{user_at, is_member}
use Rattle.constraint_forms.specs.Rules.{any_read}
use Rattle.policy_book.specs.Laws.Plans.{Problem, AreAssigned, IsCompletable}
use Rattle.policy_book.specs.Policies.{any_below}
use Rattle.policy_book.specs.Laws.Twins.{all_below, is_one_of}

-- nobody has a relation to themselves
abbrev pub is_strict : Problem → ℕ → Bool
is_strict p rho = all_below p.users (λ u. not (p.related rho u u))

-- a rule wants the users of two steps related, in one of the two directions
abbrev pub relates : Rule → ℕ → ℕ → Bool
relates (Pair rho first second) s t = (s == first) && (t == second)
relates (SomeOf rho group step) s t = false
relates (AllOf rho group step) s t = is_member group s && (t == step)
relates (SomeTo rho step group) s t = false
relates (AllTo rho step group) s t = is_member group s && (t == step)
relates (AtMost limit group) s t = false
relates (AtLeast limit group) s t = false

-- there is a rule, and it wants different users for two steps
abbrev pub is_parting : Problem → ℕ → ℕ → Option Rule → Bool
is_parting p s t None = false
is_parting p s t (Some r) = (relates r s t || relates r t s) && any_read r (is_strict p)

-- some rule wants different users for two steps
abbrev pub are_parted : Problem → ℕ → ℕ → Bool
are_parted p s t = any_below (length p.rules) (λ k. is_parting p s t (slice_get p.rules k))

-- a step is parted from each of some
abbrev pub is_parted_from : Problem → ℕ → List ℕ → Bool
is_parted_from p s [] = true
is_parted_from p s (t ∷ ts) = are_parted p s t && is_parted_from p s ts

-- each two of the steps are parted
abbrev pub all_parted : Problem → List ℕ → Bool
all_parted p [] = true
all_parted p (s ∷ ss) = is_parted_from p s ss && all_parted p ss

-- a user has a step, or may get it
abbrev pub is_open_to : Problem → ℕ → ℕ → Option ℕ → Bool
is_open_to p s u None = p.authorised s u
is_open_to p s u (Some v) = v == u

-- a user has or may get one of the steps
abbrev pub may_take_one : Problem → List (Option ℕ) → List ℕ → ℕ → Bool
may_take_one p assigned [] u = false
may_take_one p assigned (s ∷ ss) u = is_open_to p s u (user_at assigned s) ||
    may_take_one p assigned ss u

-- the numbers below n that pass
abbrev pub those_below : ℕ → (ℕ → Bool) → List ℕ
those_below zero test = []
those_below (suc n) test = if test n then n ∷ those_below n test else those_below n test

-- each is a step of a workflow
abbrev pub AreSteps : Problem → List ℕ → Type 0
AreSteps p steps = (s : ℕ) → is_one_of steps s ≡ true → s < p.steps

-- steps of a workflow that want different users each two of them, of whom there are fewer
pub record IsCrowd (p : Problem) (assigned : List (Option ℕ)) (steps : List ℕ) : Type 0 where
  pub known : AreSteps p steps
  pub parted : all_parted p steps ≡ true
  pub few : length (those_below p.users (may_take_one p assigned steps)) < length steps

-- where there is a crowd there is no valid plan
abbrev pub CrowdsBlock : Type 0
CrowdsBlock =
    (p : Problem) (assigned : List (Option ℕ)) (finished : List Bool) (steps : List ℕ) →
    AreAssigned finished assigned → IsCrowd p assigned steps → ¬ IsCompletable p assigned finished
