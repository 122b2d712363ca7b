-- What is true of all relations of a policy.
use Rattle.std.specs.Prelude.{◌≡◌, ℕ, ◌<◌, ◌≤◌, true, List, length, Some, nat_eq}
use Rattle.std.specs.List.{IsDistinct}
use Rattle.std.specs.Cmp.Lexicographic.{pointwise}
use Rattle.std.specs.FinSet as set
use Rattle.basics.specs.Laws.Pairs.{Pairs, AllPairs}
use Rattle.wf_names.specs.declared.limits.TheConstants.{USER_LIMIT, RELATION_LIMIT, PAIR_LIMIT}
use Rattle.user_relations.specs.Laws.Relations.{RelationShape, listed, complement, kind_of}
use Rattle.user_relations.specs.Laws.Relations.{is_listed}
use Rattle.user_relations.specs.Laws.Relations.{known_names}

-- not too many relations, whose names are distinct and none of them `same` or `other`; not too many
-- pairs in each, all of them of user numbers; and each complement is that of a listed relation
pub record AreSoundRelations (relations : List RelationShape) : Type 0 where
  pub count : length relations ≤ RELATION_LIMIT
  pub names : IsDistinct (pointwise nat_eq) (known_names relations)
  pub few : (rho : ℕ) (pairs : Pairs) → kind_of relations rho ≡ Some (listed pairs) →
      set.len pairs ≤ PAIR_LIMIT
  pub users : (rho : ℕ) (pairs : Pairs) → kind_of relations rho ≡ Some (listed pairs) →
      AllPairs (λ u v. (u < USER_LIMIT) × (v < USER_LIMIT)) pairs
  pub complements : (rho n : ℕ) → kind_of relations rho ≡ Some (complement n) →
      is_listed relations n ≡ true
