-- Inside: how many clauses have no literal, and how far a count has come.
use Rattle.std.specs.Prelude.{◌≡◌, ℕ, ◌+◌, ◌≤◌, ℤ, List, [], ◌∷◌, ◌++◌, length}
use Rattle.cnf_export.specs.Laws.Encodings.{literals}
use Rattle.cnf_export.specs.declared.tally.TheConstants.{LITERAL_LIMIT}

abbrev pub empty_one : List ℤ → ℕ
empty_one [] = 1
empty_one (l ∷ ls) = 0

abbrev pub empties : List (List ℤ) → ℕ
empties [] = 0
empties (c ∷ cs) = empty_one c + empties cs

-- some clauses were counted, of which others are left
pub record IsCounted (all left : List (List ℤ)) (clauses size : ℕ) : Type 0 where
  pub given : List (List ℤ)
  pub all_are : all ≡ given ++ left
  pub clauses_are : clauses ≡ length given
  pub size_is : size ≡ literals given
  pub few : size ≤ LITERAL_LIMIT
