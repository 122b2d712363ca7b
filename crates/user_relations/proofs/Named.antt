-- Relations by their names.
use Rattle.std.proofs.Common.{◌≡◌, ℕ, ◌+◌, ◌<◌, Bool, false, cond, List, [], ◌∷◌, length, map, get_or, refl, sym, ap, ◌∙◌, arith}
use Rattle.std.specs.Prelude.{Option, Some, option_map, slice_get, is_some, position, nat_eq, codes, IsTrue}
use Rattle.std.specs.List.{position_from, list_any}
use Rattle.std.specs.Cmp.Lexicographic.{pointwise}
use Rattle.std.proofs.lemmas.Iterator.Adapters.{position_from-zero}
use Rattle.std.proofs.lemmas.Option.{slice_get-map, slice_get-get_or}
use Rattle.wf_names.specs.Names.{is_name}
use Rattle.wf_names.specs.Table.{place_of}
use Rattle.user_relations.specs.declared.kinds.Relation.{Relation}
use Rattle.user_relations.specs.Laws.Relations.{known_names}
use Rattle.user_relations.specs.View.{shapes}

pub same_is_name : IsTrue (is_name (codes "same"))
unfolding is_name
same_is_name = refl

pub other_is_name : IsTrue (is_name (codes "other"))
unfolding is_name
other_is_name = refl

-- a search that starts at k answers k more
found_later : (test : List ℕ → Bool) (ds : List Relation) (i k : ℕ) →
    position_from test (i + k) (map (λ r. r.name) (shapes ds)) ≡ option_map (λ j. j + k) (position_from (λ (d : Relation). test d.name) i ds)
found_later test [] i k = refl
found_later test (d ∷ ds) i k = grind (arith, (found_later test ds (i + 1) k))

-- a name that is neither `same` nor `other` is looked for among the declared ones
pub found_declared : (ds : List Relation) (name : List ℕ) (found : Option ℕ)
    → pointwise nat_eq name (codes "same") ≡ false → pointwise nat_eq name (codes "other") ≡ false
    → found ≡ position (λ (d : Relation). pointwise nat_eq name d.name) ds
    → place_of (known_names (shapes ds)) name ≡ option_map (λ j. j + 2) found
found_declared ds name found not_same not_other e =
    position_from-zero (pointwise nat_eq name) (known_names (shapes ds))
    ∙ ap (λ b. cond b (Some 0) (cond (pointwise nat_eq name (codes "other")) (Some (0 + 1))
    (position_from (pointwise nat_eq name) (0 + 1 + 1) (map (λ r. r.name) (shapes ds))))) not_same
    ∙ ap (λ b. cond b (Some (0 + 1)) (position_from (pointwise nat_eq name) (0 + 1 + 1) (map (λ r. r.name) (shapes ds)))) not_other
    ∙ found_later (pointwise nat_eq name) ds 0 2
    ∙ ap (option_map (λ j. j + 2)) (sym (e ∙ position_from-zero (λ (d : Relation). pointwise nat_eq name d.name) ds))

none_among : {K : Type 0} (test : K → Bool) (xs : List K) (i : ℕ) → is_some (position_from test i xs) ≡ list_any test xs
none_among test [] i = refl
none_among test (x ∷ xs) i = grind (arith, (none_among test xs (i + 1)))

-- a name without a place stands nowhere
pub unknown : (names : List (List ℕ)) (name : List ℕ) → is_some (place_of names name) ≡ false → list_any (pointwise nat_eq name) names ≡ false
unknown names name none = sym (none_among (pointwise nat_eq name) names 0) ∙ ap is_some (sym (position_from-zero (pointwise nat_eq name) names)) ∙ none

-- the name of a declared relation
pub name_read : (ds : List Relation) (rho i : ℕ) (d : Relation) → rho ≡ i + 2 → i < length ds →
    slice_get (known_names (shapes ds)) rho ≡ Some (get_or ds i d).name
name_read ds rho i d e within = grind (arith, slice_get-map, slice_get-get_or)
