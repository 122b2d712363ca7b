-- Lists of pairs of a lane's number and an item, and the beginnings of such lists.
use Rattle.std.specs.Prelude.{◌≡◌, ◌⊎◌, ℕ, ◌==◌, List, [], ◌∷◌, ◌++◌, length, Option, Some, None}
use Rattle.std.specs.Prelude.{nat_lt, if◌then◌else◌}
use Rattle.std.specs.List.{filter}

-- xs begins with ys
abbrev pub StartsWith : {A : Type 0} → List A → List A → Type 0
StartsWith {A} xs ys = (rest : List A) × (xs ≡ ys ++ rest)

-- the pairs of the number n, in order
abbrev pub pairs_under : {I : Type 0} → ℕ → List (ℕ × I) → List (ℕ × I)
pairs_under n xs = filter (λ p. p.0 == n) xs

-- xs begins with ys, and past ys it has no pair of a number in P
abbrev pub Quiet : {I : Type 0} → (ℕ → Type 0) → List (ℕ × I) → List (ℕ × I) → Type 0
Quiet {I} P xs ys = (rest : List (ℕ × I)) × (xs ≡ ys ++ rest) ×
    ((n : ℕ) → P n → pairs_under n rest ≡ [])

-- xs begins with ys, and past ys its pairs of the number n are own, in order
abbrev pub OwnPast : {I : Type 0} → ℕ → List (ℕ × I) → List (ℕ × I) → List (ℕ × I) → Type 0
OwnPast {I} n xs ys own = (rest : List (ℕ × I)) × (xs ≡ ys ++ rest) × (pairs_under n rest ≡ own)

-- xs is ys with at most one pair of the number n after it
abbrev pub GrowsByOne : {I : Type 0} → ℕ → List (ℕ × I) → List (ℕ × I) → Type 0
GrowsByOne {I} n xs ys = (xs ≡ ys) ⊎ ((i : I) × (xs ≡ ys ++ (n, i) ∷ []))

-- the longer of two lists, and the first where they are as long
abbrev pub longer : {A : Type 0} → List A → List A → List A
longer xs ys = if nat_lt (length xs) (length ys) then ys else xs

-- the other one
abbrev pub shorter : {A : Type 0} → List A → List A → List A
shorter xs ys = if nat_lt (length xs) (length ys) then xs else ys

-- the numbers that a lane brings where it is joined: its own, if it has one, and those that were
-- joined into it
abbrev pub brought : Option ℕ → List ℕ → List ℕ
brought None joined = joined
brought (Some n) joined = n ∷ joined
