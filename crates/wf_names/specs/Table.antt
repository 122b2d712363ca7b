-- A table of names, as contracts see it.
use Rattle.std.specs.Prelude.{◌≡◌, ℕ, List, Option, Some, position, slice_get, IsTrue}
use Rattle.std.specs.Cmp.Lexicographic.{pointwise}
use Rattle.std.specs.Prelude.{nat_eq}
use Rattle.wf_names.specs.Names.{is_name}

-- distinct names in the order in which they were added, and the most that there may be
pub record Table : Type 0 where
  pub names : List (List ℕ)
  pub limit : ℕ

-- the place of a name in a list of names
abbrev pub place_of : List (List ℕ) → List ℕ → Option ℕ
place_of names name = position (pointwise nat_eq name) names

-- names as a table has them: each is of a name's form, and stands at one place alone
pub record AreNames (names : List (List ℕ)) : Type 0 where
  pub form : (n : ℕ) (name : List ℕ) → slice_get names n ≡ Some name → IsTrue (is_name name)
  pub alone : (n : ℕ) (name : List ℕ) → slice_get names n ≡ Some name → place_of names name ≡ Some n
