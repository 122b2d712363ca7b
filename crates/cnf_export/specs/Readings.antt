-- What a model says of a case.
use Rattle.std.specs.Prelude.{◌≡◌, ℕ, ◌+◌, ℤ, Bool, List, [], ◌∷◌, Option, None, Some}
use Rattle.std.specs.Prelude.{if◌then◌else◌}
use Rattle.policy_book.specs.Laws.Plans.{Problem, AreAssigned, IsValidPlan}
use Rattle.cnf_export.specs.Laws.Clauses.{IsModelOf, satisfies}
use Rattle.cnf_export.specs.Laws.Encodings.{clauses_of, encoding_of}
use Rattle.cnf_export.specs.Models.{plan_said}
use Rattle.cnf_export.specs.declared.reading.Reading.{Reading as AnyReading}
use Rattle.cnf_export.specs.declared.reading.Reading.TheVariants.{Plan, Clause}

-- the first clause that a model does not satisfy, of clauses that are numbered from k on
abbrev pub first_false : ℕ → (ℕ → Bool) → List (List ℤ) → Option ℕ
first_false k model [] = None
first_false k model (c ∷ cs) = if satisfies model c then first_false (k + 1) model cs else Some k

-- a model is read as its first false clause, or, where there is none, as the plan that it says,
-- which is valid
abbrev pub IsReading : Problem → List (Option ℕ) → List Bool → (ℕ → Bool) → AnyReading → Type 0
IsReading p assigned finished model (Clause i) =
    first_false 0 model (clauses_of p assigned finished) ≡ Some i
IsReading p assigned finished model (Plan plan) =
    (first_false 0 model (clauses_of p assigned finished) ≡ None)
    × ((plan ≡ plan_said (encoding_of p assigned finished) model)
    × IsValidPlan p assigned finished plan)

-- a model satisfies the clauses of each case for which a plan is valid
abbrev pub SatisfiesWherever : Problem → List ℕ → (ℕ → Bool) → Type 0
SatisfiesWherever p plan model =
    (assigned : List (Option ℕ)) (finished : List Bool) → AreAssigned finished assigned →
    IsValidPlan p assigned finished plan → IsModelOf model (clauses_of p assigned finished)

-- .. and says this plan
abbrev pub ReadsBack : Problem → List ℕ → (ℕ → Bool) → Type 0
ReadsBack p plan model =
    (assigned : List (Option ℕ)) (finished : List Bool) →
    IsValidPlan p assigned finished plan → plan_said (encoding_of p assigned finished) model ≡ plan
