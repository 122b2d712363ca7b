-- Inside: what is true of the relations as they are read.
use Rattle.std.specs.Prelude.{◌≡◌, ℕ, ◌+◌, ◌<◌, ◌≤◌, Bool, true, false, List, [], ◌∷◌, ◌++◌}
use Rattle.std.specs.Prelude.{length, nat_eq, if◌then◌else◌, Some}
use Rattle.std.specs.List.{IsDistinct}
use Rattle.std.specs.Cmp.Lexicographic.{pointwise}
use Rattle.std.specs.FinSet as set
use Rattle.toml.specs.Data.{Data}
use Rattle.user_relations.specs.Laws.Relations.{RelationKind, listed, complement, RelationShape}
use Rattle.user_relations.specs.Laws.Relations.{kind_of}
use Rattle.user_relations.specs.Laws.Relations.{known_names}
use Rattle.wf_names.specs.declared.limits.TheConstants.{PAIR_LIMIT}
use Rattle.policy_reader.specs.Bounds.{AreBelow}
use Rattle.policy_reader.specs.Relations.{first_declared, is_complement, names_of}

-- the value of the entry with number m is that of a complement, where the entries are numbered from
-- n
abbrev pub is_marked : ℕ → List (List ℕ × Data) → ℕ → Bool
is_marked n [] m = false
is_marked n (entry ∷ more) m =
    if nat_eq n m then is_complement entry.1 else is_marked (n + 1) more m

-- the entry with number m is there, and is not that of a complement
pub record IsTarget (all : List (List ℕ × Data)) (m : ℕ) : Type 0 where
  pub other : is_marked first_declared all m ≡ false
  pub declared : first_declared ≤ m
  pub within : m < first_declared + length all

-- what is true of a kind that was read from a table
abbrev pub IsReadKind : ℕ → List (List ℕ × Data) → Bool → RelationKind → Type 0
IsReadKind users all marked (listed pairs) = (set.len pairs ≤ PAIR_LIMIT) × AreBelow users pairs
IsReadKind users all marked (complement m) = (marked ≡ true) × IsTarget all m

-- the names of the relations that were read are known once, and each kind is that of the entry with
-- its number
pub record AreReadRelations (users : ℕ) (all : List (List ℕ × Data))
    (relations : List RelationShape) : Type 0 where
  pub names : IsDistinct (pointwise nat_eq) (known_names relations)
  pub kinds : (rho : ℕ) (kind : RelationKind) → kind_of relations rho ≡ Some kind →
      IsReadKind users all (is_marked first_declared all rho) kind

-- one relation more was read, of this name
pub record HasReadNext (users : ℕ) (all : List (List ℕ × Data))
    (before after : List RelationShape) (name : List ℕ) : Type 0 where
  pub names : names_of after ≡ names_of before ++ name ∷ []
  pub kept : AreReadRelations users all after
