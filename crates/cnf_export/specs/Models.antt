-- What models of the clauses and valid plans have to do with one another.
use Rattle.std.specs.Prelude.{◌≡◌, ℕ, zero, suc, ◌+◌, ◌<◌, ◌==◌, nat_le, nat_lt, Bool, true, false}
use Rattle.std.specs.Prelude.{List, [], ◌∷◌, Option, Some, map, slice_get, if◌then◌else◌}
use Rattle.wf_names.specs.UserSets.{count_below}
use Rattle.constraint_forms.specs.declared.rule.Rule.{Rule}
use Rattle.constraint_forms.specs.declared.rule.Rule.TheVariants as rule
use Rattle.constraint_forms.specs.Assign.{planned}
use Rattle.constraint_forms.specs.Rules.{is_among, users_from}
use Rattle.policy_book.specs.Laws.Facts.{HasMembers}
use Rattle.policy_book.specs.Laws.Plans.{Problem, AreAssigned, IsValidPlan, IsWellFormed, IsWithin}
use Rattle.cnf_export.specs.Laws.Clauses.{IsModelOf}
use Rattle.cnf_export.specs.Laws.Encodings.{Encoding, blocks, clauses_of, counts, encoding_of, has}
use Rattle.cnf_export.specs.Laws.Encodings.{has_by, height, numbers, step_blocks, takes}

-- the last number below n that passes, or 0
abbrev pub last_below : ℕ → (ℕ → Bool) → ℕ
last_below zero test = 0
last_below (suc n) test = if test n then n else last_below n test

-- the plan that a model says: each step's user
abbrev pub plan_said : Encoding → (ℕ → Bool) → List ℕ
plan_said e model = map (λ s. last_below e.users (λ u. model (has e s u))) (numbers 0 e.steps)

-- rules name steps of the workflow alone, groups have members, and counts are ones that a
-- group can have
pub record AreSound (p : Problem) : Type 0 where
  pub named : IsWellFormed p
  pub members : (k : ℕ) (r : Rule) → slice_get p.rules k ≡ Some r → HasMembers r

-- a model of the clauses is a valid plan
abbrev pub ModelsArePlans : Type 0
ModelsArePlans =
    (p : Problem) (assigned : List (Option ℕ)) (finished : List Bool) (model : ℕ → Bool) →
    AreSound p → IsWithin p assigned → IsModelOf model (clauses_of p assigned finished) →
    IsValidPlan p assigned finished (plan_said (encoding_of p assigned finished) model)

-- a user has some step of a group in a plan
abbrev pub has_some : List Bool → List ℕ → ℕ → Bool
has_some group plan u = is_among (users_from 0 group (λ s. Some (planned plan s))) u

-- a model says of a plan who has some step of a group, and how many of the users up to each one
pub record SaysCount (e : Encoding) (model : ℕ → Bool) (plan : List ℕ) (block high : ℕ)
    (group : List Bool) : Type 0 where
  pub taken : (u : ℕ) → u < e.users → model (takes e block u) ≡ has_some group plan u
  pub counted : (u j : ℕ) → u < e.users → j < high → model (counts e block high u j)
      ≡ nat_lt j (count_below (suc u) (has_some group plan))

-- .. of the groups of the rules that count
abbrev pub SaysRule : Encoding → (ℕ → Bool) → List ℕ → ℕ → Rule → Type 0
SaysRule e model plan block (rule.Pair rho s t) = Unit {0}
SaysRule e model plan block (rule.SomeOf rho group s) = Unit {0}
SaysRule e model plan block (rule.AllOf rho group s) = Unit {0}
SaysRule e model plan block (rule.SomeTo rho s group) = Unit {0}
SaysRule e model plan block (rule.AllTo rho s group) = Unit {0}
SaysRule e model plan block (rule.AtMost limit group) =
    SaysCount e model plan block (height true limit) group
SaysRule e model plan block (rule.AtLeast limit group) =
    SaysCount e model plan block (height false limit) group

abbrev pub SaysRules : Encoding → (ℕ → Bool) → List ℕ → ℕ → List Rule → Type 0
SaysRules e model plan block [] = Unit {0}
SaysRules e model plan block (r ∷ rs) =
    SaysRule e model plan block r × SaysRules e model plan (block + blocks r) rs

-- a model says a plan: which user has a step, which users come at or behind that user, and what the
-- rules that count are asked
pub record SaysPlan (e : Encoding) (rules : List Rule) (model : ℕ → Bool)
    (plan : List ℕ) : Type 0 where
  pub has_it : (s u : ℕ) → s < e.steps → u < e.users → model (has e s u) ≡ (planned plan s == u)
  pub by_then : (s u : ℕ) → s < e.steps → u < e.users → model (has_by e s u)
      ≡ nat_le (planned plan s) u
  pub counted : SaysRules e model plan (step_blocks e.steps) rules

-- a model that says a valid plan is a model of the clauses
abbrev pub PlansAreModels : Type 0
PlansAreModels =
    (p : Problem) (assigned : List (Option ℕ)) (finished : List Bool) (plan : List ℕ)
    (model : ℕ → Bool) →
    AreSound p → AreAssigned finished assigned → IsValidPlan p assigned finished plan →
    SaysPlan (encoding_of p assigned finished) p.rules model plan →
    IsModelOf model (clauses_of p assigned finished)
