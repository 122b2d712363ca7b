-- Finite sets of pairs of numbers.
use Rattle.std.specs.Prelude.{◌≡◌, ℕ, true, List}
use Rattle.std.specs.Ordering.{nat_cmp, ordering_then}
use Rattle.std.specs.declared.cmp.Ordering.{Ordering}
use Rattle.std.specs.Coded.{Coded, coded×, coded_ℕ}
use Rattle.std.specs.List.Sorted.{IsStrictlySortedBy}
use Rattle.std.specs.FinSet as set

-- the order of pairs: by their first numbers, and where these are equal by their second
abbrev pub pair_cmp : (ℕ × ℕ) → (ℕ × ℕ) → Ordering
pair_cmp x y = ordering_then (nat_cmp x.0 y.0) (nat_cmp x.1 y.1)

-- a finite set of pairs
abbrev pub Pairs : Type 0
Pairs = set.FinSet pair_cmp

-- by which values that hold such a set are told apart
abbrev pub pairs_code : Coded Pairs
pairs_code = set.code (coded× coded_ℕ coded_ℕ)

-- the pairs of a list ascend, each once
abbrev pub IsAscending : List (ℕ × ℕ) → Type 0
IsAscending pairs = IsStrictlySortedBy pair_cmp pairs

-- P holds of each pair of the set
pub record AllPairs (P : ℕ → ℕ → Type 0) (pairs : Pairs) : Type 0 where
  pub each : (a b : ℕ) → set.contains pairs (a, b) ≡ true → P a b
