-- What clauses are good for.
use Rattle.std.specs.Prelude.{◌↔◌, ℕ, ℤ, Bool, List, Option}
use Rattle.policy_book.specs.Laws.Plans.{Problem, AreAssigned, IsCompletable, IsWithin}
use Rattle.cnf_export.specs.Laws.Clauses.{IsModelOf}
use Rattle.cnf_export.specs.Laws.Encodings.{clauses_of}
use Rattle.cnf_export.specs.Models.{AreSound}

-- clauses have a model
abbrev pub IsSatisfiable : List (List ℤ) → Type 0
IsSatisfiable clauses = (model : ℕ → Bool) × IsModelOf model clauses

-- the clauses of a case have a model exactly where the case can be completed
abbrev pub SatisfiableIsCompletable : Type 0
SatisfiableIsCompletable =
    (p : Problem) (assigned : List (Option ℕ)) (finished : List Bool) →
    AreSound p → IsWithin p assigned → AreAssigned finished assigned →
    (IsSatisfiable (clauses_of p assigned finished) ↔ IsCompletable p assigned finished)
