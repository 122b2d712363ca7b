-- A model without a false clause.
use Rattle.std.proofs.Common.{◌≡◌, ℕ, ◌+◌, Bool, true, List, [], ◌∷◌, None, arith}
use Rattle.std.specs.Prelude.{ℤ}
use Rattle.std.specs.List.{AllByRecursion as Every}
use Rattle.std.proofs.lemmas.Bool.{false≢true}
use Rattle.std.proofs.lemmas.List.Elements.{All-from_recursion}
use Rattle.cnf_export.specs.Laws.Clauses.{IsModelOf, satisfies}
use Rattle.cnf_export.specs.Readings.{first_false}

every_true : (k : ℕ) (m : ℕ → Bool) (cs : List (List ℤ)) → first_false k m cs ≡ None → Every (λ c. satisfies m c ≡ true) cs
every_true k m [] h = tt
every_true k m (c ∷ cs) h = grind (arith, false≢true, (every_true (k + 1) m cs))

pub all_true : (m : ℕ → Bool) (cs : List (List ℤ)) → first_false 0 m cs ≡ None → IsModelOf m cs
all_true m cs none = All-from_recursion (λ c. satisfies m c ≡ true) cs (every_true 0 m cs none)
