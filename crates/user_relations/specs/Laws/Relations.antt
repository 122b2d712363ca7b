-- The relations between users, as contracts see them.
use Rattle.std.specs.Prelude.{◌≡◌, ℕ, ◌<◌, Bool, true, false, not, ◌==◌, List, [], ◌∷◌, length, map}
use Rattle.std.specs.Prelude.{codes, refl, Option, Some, None, is_some, option_map, slice_get}
use Rattle.std.proofs.Common.{zero, suc, ◌⊎◌, inl, inr}
use Rattle.std.specs.Coded.{Coded, code_by, coded×, coded⊎, coded_list, coded_ℕ}
use Rattle.std.specs.FinSet as set
use Rattle.basics.specs.Laws.Pairs.{Pairs, pairs_code}
use Rattle.wf_names.specs.declared.limits.TheConstants.{RELATION_LIMIT}
use Rattle.wf_names.specs.Table.{place_of}

-- a relation that is declared: its pairs are listed, or it holds where the listed relation with
-- this number does not
pub data RelationKind : Type 0 where
  listed : Pairs → RelationKind
  complement : ℕ → RelationKind

pub record RelationShape : Type 0 where
  pub name : List ℕ
  pub kind : RelationKind

-- by which values that hold relations are told apart
abbrev pub kind_as_sum : RelationKind → Pairs ⊎ ℕ
kind_as_sum (listed pairs) = inl pairs
kind_as_sum (complement n) = inr n

abbrev pub kind_of_sum : Pairs ⊎ ℕ → RelationKind
kind_of_sum (inl pairs) = listed pairs
kind_of_sum (inr n) = complement n

pub kind_comes_back : (k : RelationKind) → kind_of_sum (kind_as_sum k) ≡ k
kind_comes_back (listed pairs) = refl
kind_comes_back (complement n) = refl

abbrev pub kind_code : Coded RelationKind
kind_code = code_by (Pairs ⊎ ℕ) (coded⊎ pairs_code coded_ℕ) kind_as_sum kind_of_sum kind_comes_back

abbrev pub relation_code : Coded RelationShape
relation_code =
    code_by (List ℕ × RelationKind) (coded× (coded_list coded_ℕ) kind_code)
    (λ r. (r.name, r.kind)) (λ p. record { name = p.0; kind = p.1 }) (λ _. refl)

abbrev pub relations_code : Coded (List RelationShape)
relations_code = coded_list relation_code

-- the declared relation with this number: 0 is `same`, 1 is `other`, and declared relations count
-- from 2
abbrev pub kind_of : List RelationShape → ℕ → Option RelationKind
kind_of relations zero = None
kind_of relations (suc zero) = None
kind_of relations (suc (suc n)) = option_map (λ r. r.kind) (slice_get relations n)

-- the pairs of a listed relation; of any other, none
abbrev pub listed_pairs : Option RelationKind → Pairs
listed_pairs None = set.empty
listed_pairs (Some (listed pairs)) = pairs
listed_pairs (Some (complement n)) = set.empty

abbrev pub pairs_of : List RelationShape → ℕ → Pairs
pairs_of relations rho = listed_pairs (kind_of relations rho)

-- whether its pairs are listed
abbrev pub has_list : Option RelationKind → Bool
has_list None = false
has_list (Some (listed pairs)) = true
has_list (Some (complement n)) = false

abbrev pub is_listed : List RelationShape → ℕ → Bool
is_listed relations rho = has_list (kind_of relations rho)

-- the number of the listed relation whose complement this is, where it is one
abbrev pub complemented : Option RelationKind → Option ℕ
complemented None = None
complemented (Some (listed pairs)) = None
complemented (Some (complement n)) = Some n

abbrev pub complement_of : List RelationShape → ℕ → Option ℕ
complement_of relations rho = complemented (kind_of relations rho)

-- a declared relation holds of a listed pair, and a complement of each pair that is not listed in
-- the other
abbrev pub kind_holds : List RelationShape → Option RelationKind → ℕ → ℕ → Bool
kind_holds relations None u v = false
kind_holds relations (Some (listed pairs)) u v = set.contains pairs (u, v)
kind_holds relations (Some (complement n)) u v = not (set.contains (pairs_of relations n) (u, v))

-- related users: `same` holds of equal users, `other` of different ones, and an unknown relation of
-- none
abbrev pub is_related : List RelationShape → ℕ → ℕ → ℕ → Bool
is_related relations zero u v = u == v
is_related relations (suc zero) u v = not (u == v)
is_related relations (suc (suc n)) u v = kind_holds relations (kind_of relations (suc (suc n))) u v

-- the names of all relations by their numbers
abbrev pub known_names : List RelationShape → List (List ℕ)
known_names relations = codes "same" ∷ codes "other" ∷ map (λ r. r.name) relations

-- no relation has this name, and there is room for one more
pub record CanDeclare (relations : List RelationShape) (name : List ℕ) : Type 0 where
  pub fresh : is_some (place_of (known_names relations) name) ≡ false
  pub room : length relations < RELATION_LIMIT

-- the relations with another kind at this number
abbrev pub change_kind : List RelationShape → ℕ → RelationKind → List RelationShape
change_kind [] n kind = []
change_kind (r ∷ rs) zero kind = record r { kind = kind } ∷ rs
change_kind (r ∷ rs) (suc n) kind = r ∷ change_kind rs n kind

abbrev pub with_kind : List RelationShape → ℕ → RelationKind → List RelationShape
with_kind relations zero kind = relations
with_kind relations (suc zero) kind = relations
with_kind relations (suc (suc n)) kind = change_kind relations n kind
